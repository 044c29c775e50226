-- Process data: each entry that a sound map counts may be mapped, and so has two bytes and a line; a received PDO is its writes one after the
-- other, and a sent one its reads.
use mathlib.Core.Bool.{true}
use mathlib.Core.List.{List, [], ◌∷◌, ◌++◌}
use mathlib.Core.Path.{◌≡◌, refl, ap, ◌∙◌}
use Prim.Native.Nat.{ℕ, zero, suc, ◌*◌, ◌/◌, ◌%◌, ◌≤◌, ◌<◌}
use native.Mathlib.Omega.{arith}
use lib.ListN.{length, get_or, take, drop}
use Rattle.integers.specs.Words.{◌among◌}
use Rattle.coding.specs.Bytes.{four_bytes}
use Rattle.mapping.specs.Maps.{SENDABLE, bytes_of, entry_of, length_of, map_length}
use Rattle.mapping.specs.Maps as Maps
use Rattle.mapping.specs.declared.Map.{Map}
use Rattle.mapping.proofs.Sound.{Parts, one_of_three, received_of_two, sent_of_two, counted_mapped}
use Rattle.device.specs.Sound.{Sound}
use Rattle.device.specs.declared.Device.{Device}
use Rattle.device.proofs.Laws.{receive_parts, transmit_parts}
use Rattle.pdo.specs.Receive.{acted, received}
use Rattle.pdo.specs.Send.{sent_by, sent, sent_in}
use Rattle.pdo.proofs.Laws.{acted_sound}
use Rattle.rainsheave.proofs.Sound.{transmit_length}
use Rattle.promises.specs.Sheet.{sheet, has_entry}
use Rattle.promises.specs.Sdo.{number_at, low_first, four_from, mapped, counted}
use Rattle.promises.specs.Sdo as Sdo
use Rattle.kept.specs.Ours.{told_of}
use Rattle.kept.proofs.Plain.{sound_told}
use Rattle.kept.proofs.Mapped.{MapTold, receive_told, transmit_told, counted_told}
use Rattle.kept.proofs.Served.{number_told, write_told}

-- ---- what holds of each entry that a map counts

abbrev OfEach : (ℕ → Type 0) → List ℕ → Type 0
OfEach P [] = Unit {0}
OfEach P (e ∷ entries) = P e × OfEach P entries

of_first : (P : ℕ → Type 0) (entries : List ℕ) (n : ℕ) → ((k : ℕ) → k < n → P (get_or entries k 0)) → n ≤ length entries → OfEach P (take n entries)
of_first P entries zero f h = none entries
  where
    none : (entries : List ℕ) → OfEach P (take 0 entries)
    none [] = tt
    none (e ∷ entries) = tt
of_first P [] (suc n) f h = absurd (omega (arith, h))
of_first P (e ∷ entries) (suc n) f h = (f 0 (omega arith), of_first P entries n (λ k l. f (suc k) (omega arith)) (omega (arith, h)))

of_counted : (P : ℕ → Type 0) {mappable : List ℕ} {m : Map} → Parts mappable m → ((e : ℕ) → e among mappable ≡ true → P e) → OfEach P (Maps.counted m)
of_counted P {mappable} {m} p f = of_first P m.entries m.count (λ k h. f (entry_of m k) (counted_mapped mappable p k h)) (omega (arith, p.few, p.long))

-- ---- a received PDO

acted_told : {d : Device} → Sound d → (e : ℕ) (pdo : List ℕ) → bytes_of e ≡ 2 → told_of (acted e pdo d) ≡ Sdo.served 0x2B (e / 65536) (e / 256 % 256) (four_from pdo 0) (told_of d)
unfolding acted
acted_told s e pdo two = rw two (unfold Sdo.sent_by in write_told s 0x2B (e / 65536) (e / 256 % 256) (four_from pdo 0) refl)

entries_told : {d : Device} → Sound d → (entries pdo : List ℕ) → OfEach (λ e. bytes_of e ≡ 2) entries → told_of (received entries pdo d) ≡ Sdo.received entries pdo (told_of d)
unfolding received Sdo.received
entries_told {d = d} s [] pdo h = refl
entries_told {d = d} s (e ∷ entries) pdo h =
    rw h.0 (entries_told {d = acted e pdo d} (acted_sound e pdo s) entries (drop 2 pdo) h.1) ∙ ap (Sdo.received entries (drop 2 pdo)) (acted_told s e pdo h.0)

module _ {d : Device} (s : Sound d) where
  -- the maps, as they are told
  pub receive_map_told : MapTold (told_of d) 0x1600 d.maps.receive
  receive_map_told = rw (sound_told s) (receive_told d)

  pub transmit_map_told : MapTold (told_of d) 0x1A00 d.maps.transmit
  transmit_map_told = rw (sound_told s) (transmit_told d)

  pub received_told : (pdo : List ℕ) → told_of (received (Maps.counted d.maps.receive) pdo d) ≡ Sdo.received (counted (told_of d) 0x1600) pdo (told_of d)
  received_told pdo =
      rw (counted_told receive_map_told (receive_parts s).long)
      (entries_told s (Maps.counted d.maps.receive) pdo (of_counted _ (receive_parts s) received_of_two))

-- ---- a sent one

sent_listed : (e : ℕ) → e among SENDABLE ≡ true → has_entry (e / 65536) (e / 256 % 256) ≡ true
unfolding sheet
sent_listed e h = one_of_three 0x60410010 0x604E0010 0x63100110 e h (λ q. rw q) (λ q. rw q) (λ q. rw q)

four_low : (n : ℕ) → four_bytes n ≡ low_first n
unfolding four_bytes
four_low n = let one : n / 1 ≡ n = omega arith in rw one

record Sent (e : ℕ) : Type 0 where
  two : bytes_of e ≡ 2
  listed : has_entry (e / 65536) (e / 256 % 256) ≡ true

bytes_told : {d : Device} → Sound d → (entries : List ℕ) → OfEach Sent entries → sent d entries ≡ Sdo.sent entries (told_of d)
unfolding sent sent_by Sdo.sent
bytes_told s [] h = refl
bytes_told {d} s (e ∷ entries) h =
    rw (h.0.two, number_told s (e / 65536) (e / 256 % 256) h.0.listed, four_low (number_at (told_of d) (e / 65536) (e / 256 % 256)), bytes_told s entries h.1)

pub sent_told : {d : Device} → Sound d → (room : List ℕ) →
    sent_in d (Maps.counted d.maps.transmit) room ≡ Sdo.sent (counted (told_of d) 0x1A00) (told_of d) ++ drop (2 * mapped (told_of d) 0x1A00 0) room
unfolding sent_in
sent_told {d} s room =
    let long : length_of (Maps.counted d.maps.transmit) ≡ 2 * d.maps.transmit.count = (unfold map_length in transmit_length s) in
    let told = transmit_map_told s in
    rw (long, counted_told told (transmit_parts s).long, told.count)
    (ap (λ (bytes : List ℕ). bytes ++ drop (2 * d.maps.transmit.count) room)
    (bytes_told s (Maps.counted d.maps.transmit) (of_counted Sent (transmit_parts s) (λ e h. record { two = sent_of_two e h; listed = sent_listed e h }))))
