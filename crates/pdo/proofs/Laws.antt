-- One entry more: what it does after those before it, and what it sends after them. Each goes along the list of entries.
use mathlib.Core.List.{List, [], ◌∷◌, ◌++◌, append_assoc, append-nil}
use mathlib.Core.Path.{◌≡◌, refl, sym, ap, ◌∙◌}
use Prim.Native.Nat.{ℕ, zero, suc, ◌+◌, ◌*◌, ◌≤◌, ◌<◌}
use native.Mathlib.Omega.{arith}
use lib.ListN.{length, get_or, take, drop, length-append, get_or-append}
use lib.Seq.{get_or-append-add, paste, take_all, take_at, length-take-le, drop-drop, drop-append-add}
use Rattle.coding.specs.Bytes.{four_bytes}
use Rattle.integers.proofs.Cases.{by_less}
use Rattle.mapping.specs.Maps.{SENDABLE, index_of, sub_of, bytes_of, length_of}
use Rattle.mapping.proofs.Sound.{sent_of_two, counted_mapped}
use Rattle.device.specs.Sound.{Sound}
use Rattle.device.specs.declared.Device.{Device}
use Rattle.device.proofs.Laws.{transmit_parts}
use Rattle.dictionary.proofs.Decisions.{write_sound}
use Rattle.pdo.specs.Receive.{data_in, acted, received}
use Rattle.pdo.specs.Send.{sent_by, sent}

-- ---- receiving

pub received_more : (entries : List ℕ) (k : ℕ) (bytes : List ℕ) (d : Device) → k < length entries → received (take (k + 1) entries) bytes d ≡ acted (get_or entries k 0) (drop (length_of (take k entries)) bytes) (received (take k entries) bytes d)
unfolding received
received_more [] k bytes d h = absurd (omega arith)
received_more (entry ∷ entries) zero bytes d h = refl
received_more (entry ∷ entries) (suc k) bytes d h =
    let next : suc k + 1 ≡ suc (k + 1) = omega arith in
    rw next (received_more entries k (drop (bytes_of entry) bytes) (acted entry bytes d) (omega arith) ∙ rw (drop-drop (length_of (take k entries)) (bytes_of entry) bytes))

-- an entry keeps a sound device sound, as the write that it is does
pub acted_sound : (entry : ℕ) (bytes : List ℕ) {d : Device} → Sound d → Sound (acted entry bytes d)
unfolding acted
acted_sound entry bytes s = write_sound s (index_of entry) (sub_of entry) (bytes_of entry) (data_in bytes)

pub received_sound : (entries bytes : List ℕ) {d : Device} → Sound d → Sound (received entries bytes d)
unfolding received
received_sound [] bytes s = s
received_sound (entry ∷ entries) bytes s = received_sound entries (drop (bytes_of entry) bytes) (acted_sound entry bytes s)

-- ---- sending

pub sent_more : (d : Device) (entries : List ℕ) (k : ℕ) → k < length entries → sent d (take (k + 1) entries) ≡ sent d (take k entries) ++ sent_by d (get_or entries k 0)
unfolding sent
sent_more d [] k h = absurd (omega arith)
sent_more d (entry ∷ entries) zero h = append-nil (sent_by d entry)
sent_more d (entry ∷ entries) (suc k) h =
    let next : suc k + 1 ≡ suc (k + 1) = omega arith in
    rw (next, sent_more d entries k (omega arith)) (sym (append_assoc (sent_by d entry) (sent d (take k entries)) (sent_by d (get_or entries k 0))))

-- an entry of at most four bytes sends as many as it has
pub length_sent_by : (d : Device) (entry : ℕ) → bytes_of entry ≤ 4 → length (sent_by d entry) ≡ bytes_of entry
unfolding sent_by four_bytes
length_sent_by d entry h = length-take-le (bytes_of entry) _ h

-- of a sound device each counted entry sends two bytes, which stand in map order
module _ {d : Device} (s : Sound d) where
  abbrev entries : List ℕ
  entries = d.maps.transmit.entries

  pub two_sent : (k : ℕ) → k < d.maps.transmit.count → length (sent_by d (get_or entries k 0)) ≡ 2
  two_sent k h =
      let two = sent_of_two (get_or entries k 0) (counted_mapped SENDABLE (transmit_parts s) k h) in
      length_sent_by d (get_or entries k 0) (omega (arith, two)) ∙ two

  one_more : (n : ℕ) → suc n ≤ d.maps.transmit.count → sent d (take (suc n) entries) ≡ sent d (take n entries) ++ sent_by d (get_or entries n 0)
  one_more n h =
      let next : n + 1 ≡ suc n = omega arith in
      rw next at (sent_more d entries n (omega (arith, (transmit_parts s).long, (transmit_parts s).few)))

  pub sent_length : (n : ℕ) → n ≤ d.maps.transmit.count → length (sent d (take n entries)) ≡ 2 * n
  unfolding sent
  sent_length zero h = refl
  sent_length (suc n) h =
      ap length (one_more n h) ∙ length-append (sent d (take n entries)) (sent_by d (get_or entries n 0))
      ∙ omega (arith, sent_length n (omega arith), two_sent n (omega arith))

  -- the bytes of the k-th entry
  pub sent_at : (n k j : ℕ) → n ≤ d.maps.transmit.count → k < n → j < 2 → get_or (sent d (take n entries)) (2 * k + j) 0 ≡ get_or (sent_by d (get_or entries k 0)) j 0
  sent_at zero k j h l m = absurd (omega arith)
  sent_at (suc n) k j h l m =
      let before = sent_length n (omega arith) in
      ap (λ (b : List ℕ). get_or b (2 * k + j) 0) (one_more n h)
      ∙ by_less k n
      (λ p. get_or-append (sent d (take n entries)) (sent_by d (get_or entries n 0)) 0 (2 * k + j) (omega (arith, before)) ∙ sent_at n k j (omega arith) p m)
      (λ p. let same : k ≡ n = omega arith in rw (same, ← before) (get_or-append-add (sent d (take n entries)) (sent_by d (get_or entries n 0)) j 0))

-- one entry's bytes, put after those before it
pub put_more : (sent-before value room : List ℕ) (at n : ℕ) → length sent-before ≡ at → length value ≡ n → paste (sent-before ++ drop at room) at value n ≡ (sent-before ++ value) ++ drop (at + n) room
put_more sent-before value room at n before long =
    let whole = take_all n value (omega arith) in
    simp (take_at sent-before (drop at room) at before, whole, ← before, drop-append-add, drop-drop)
