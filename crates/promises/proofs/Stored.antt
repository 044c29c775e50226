-- Storing and loading, and a search in what was stored, of any library that keeps the promises. A field of 1, 2 or 4 bytes tells its tag, its size and its
-- value whatever comes after it; so the fields are read back line by line. What is needed of the 17 tagged lines is computed.
use Rattle.std.specs.Prelude.{if◌then◌else◌}
use mathlib.Core.Bool.{Bool, true, false, ◌&&◌, or-true}
use mathlib.Core.List.{List, [], ◌∷◌, ◌++◌, map}
use mathlib.Core.Path.{◌≡◌, refl, sym, ap, ap₂, subst, ◌∙◌, fun_ext}
use Prim.Native.Nat.{ℕ, zero, suc, ◌+◌, ◌-◌, ◌*◌, ◌/◌, ◌%◌, ◌^◌, ◌≤◌, ◌<◌}
use native.Mathlib.Nat.{add-zero, add_assoc, mod-eq_of_lt}
use native.Mathlib.Omega.{arith}
use borrow.Author.Tests.{eqb-true, eq-eqb, ne_eqb, le-ltb, lt-ltb}
use lib.IntN.{ℤ, pos, nat_abs}
use lib.ListN.{length, get_or, take, drop, length-drop}
use lib.Seq.{get_or-drop, drop-drop, take_at}
use lib.Signed.{◌≤ℤ◌, ◌<ℤ◌}
use Rattle.integers.specs.Words.{minus, ◌is◌, ◌below◌, ◌among◌, ◌<?◌, ◌≤?◌}
use Rattle.integers.specs.Range.{Within}
use Rattle.integers.proofs.Cases.{by_cases, by_test, clash}
use Rattle.integers.proofs.Each.{and_split, and_both}
use Rattle.integers.proofs.Linear.{ints, up, dn, abs_nat, sub_nat}
use Rattle.promises.specs.Library.{Told, holding, Reply, store, load, search, Library}
use Rattle.promises.specs.Sheet.{Kind, Line, sheet, line_at, is_held, in_range}
use Rattle.promises.specs.Sdo.{number_for, stands_for, low_first, byte, two_from, four_from}
use Rattle.promises.specs.Image as Image
use Rattle.promises.specs.Image.{tagged, fields, image, headed, full, values_in, loaded, fits, found, search_from}
use Rattle.promises.specs.Promises.{sound, Promises}
use Rattle.promises.specs.Demands.{is_tagged, settings_of}
use Rattle.promises.proofs.SoundTold.{sound_parts, held_in_range}

-- ---- sizes

abbrev is_size : ℕ → Bool
is_size n = n among 1 ∷ 2 ∷ 4 ∷ []

by_size : (P : ℕ → Type 0) (n : ℕ) → is_size n ≡ true → P 1 → P 2 → P 4 → P n
by_size P n e one two four =
    by_cases (n is 1) (λ a. subst P (sym (eqb-true n 1 a)) one)
    (λ a. by_cases (n is 2) (λ b. subst P (sym (eqb-true n 2 b)) two)
    (λ b. by_cases (n is 4) (λ c. subst P (sym (eqb-true n 4 c)) four) (λ c. clash e (rw (a, b, c)))))

-- how many numbers so many bytes have: even, and more than zero; and which number minus the half is, for `omega`
record Span (all : ℕ) : Type 0 where
  some : 0 < all
  even : all ≡ all / 2 + all / 2
  half : dn (minus (all / 2)) ≡ up (minus (all / 2)) + all / 2

span_of : (n : ℕ) → is_size n ≡ true → Span (256 ^ n)
span_of n e = by_size (λ k. Span (256 ^ k)) n e (omega arith) (omega arith) (omega arith)

-- ---- a value and its number

-- the bytes of a type hold a value
data Holds (kind : Kind) (x : ℤ) : Type 0 where
  signed : kind.signed ≡ true → minus (256 ^ kind.bytes / 2) ≤ℤ x → x <ℤ pos (256 ^ kind.bytes / 2) → Holds kind x
  unsigned : kind.signed ≡ false → pos 0 ≤ℤ x → x <ℤ pos (256 ^ kind.bytes) → Holds kind x

module _ (kind : Kind) (x : ℤ) (s : Span (256 ^ kind.bytes)) where
  number_below : Holds kind x → number_for kind x < 256 ^ kind.bytes
  unfolding number_for
  number_below (signed e low high) =
      by_test (λ n. n < 256 ^ kind.bytes) (x <? pos 0) (λ less. omega (arith, ints, abs_nat x)) (λ from. omega (arith, ints, abs_nat x))
  number_below (unsigned e low high) =
      let from : (x <? pos 0) ≡ false = omega (arith, ints) in
      rw from (omega (arith, ints, abs_nat x))

  -- what has the value's number in its low bytes stands for the value
  stands_back : Holds kind x → (n : ℕ) → n % 256 ^ kind.bytes ≡ number_for kind x → stands_for kind n ≡ x
  unfolding number_for stands_for
  stands_back (signed e low high) n same =
      let all = 256 ^ kind.bytes in
      by_cases (x <? pos 0)
      (λ less.
      let m : n % all ≡ all - nat_abs x = same ∙ rw less in
      rw (e, m, le-ltb (all - nat_abs x) (all / 2) (omega (arith, ints, abs_nat x)))
      (omega (arith, ints, abs_nat x, sub_nat (pos (all - nat_abs x)) (pos all))))
      (λ from.
      let m : n % all ≡ nat_abs x = same ∙ rw from in
      rw (e, m, lt-ltb (nat_abs x) (all / 2) (omega (arith, ints, abs_nat x))) (omega (arith, ints, abs_nat x)))
  stands_back (unsigned e low high) n same =
      let from : (x <? pos 0) ≡ false = omega (arith, ints) in
      rw (e, same, from) (omega (arith, ints, abs_nat x))

-- ---- a field, and what comes after it

four_back : (n : ℕ) → n < 4294967296 → n % 256 + n / 256 % 256 * 256 + n / 65536 % 256 * 65536 + n / 16777216 % 256 * 16777216 ≡ n
four_back n h =
    let two : n / 256 ≡ n / 65536 * 256 + n / 256 % 256 = omega arith in
    let three : n / 65536 ≡ n / 16777216 * 256 + n / 65536 % 256 = omega arith in
    let four : n / 16777216 ≡ n / 16777216 % 256 = omega arith in
    omega arith

-- what bytes tell that begin with the field of a number, of so many bytes
record Tells (tag number : ℕ) (rest : List ℕ) (n : ℕ) (bytes : List ℕ) : Type 0 where
  tag_first : byte bytes 0 ≡ tag
  size : two_from bytes 1 ≡ n
  value : number < 256 ^ n → four_from bytes 3 % 256 ^ n ≡ number
  part : take n (drop 3 bytes) ≡ take n (low_first number)
  long : length bytes ≡ 3 + n + length rest
  after : drop (3 + n) bytes ≡ rest

tells :
    (tag number : ℕ) (rest : List ℕ) (n : ℕ) → is_size n ≡ true →
    Tells tag number rest n ((tag ∷ (take 2 (low_first n) ++ take n (low_first number))) ++ rest)
tells tag x rest n e =
    by_size (λ k. Tells tag x rest k ((tag ∷ (take 2 (low_first k) ++ take k (low_first x))) ++ rest)) n e
    (record { tag_first = refl; size = refl; value = λ h. omega arith; part = refl; long = omega arith; after = refl })
    (record { tag_first = refl; size = refl; value = λ h. omega arith; part = refl; long = omega arith; after = refl })
    (record { tag_first = refl; size = refl; value = λ h. rw (four_back x h) (mod-eq_of_lt h); part = refl; long = omega arith; after = refl })

-- ---- the tagged lines

-- the line of the sheet that has a line's index and sub-index
abbrev own_line : Line → Line
own_line l = line_at l.index l.sub

-- the bytes of a type hold its range
abbrev spans : Kind → Bool
spans kind =
    let all = 256 ^ kind.bytes in
    if kind.signed then minus (all / 2) ≤? kind.low && kind.high <? pos (all / 2)
    else pos 0 ≤? kind.low && kind.high <? pos all

-- a line of one of the three sizes, tagged and held
abbrev is_plain : Line → Bool
is_plain l = (is_size l.kind.bytes && is_tagged tagged l.index l.sub) && (is_held l && spans l.kind)

abbrev are_plain : List Line → Bool
are_plain [] = true
are_plain (l ∷ lines) = is_plain l && are_plain lines

-- the tagged lines are such, are the sheet's, and are 17
tagged_plain : are_plain tagged ≡ true
unfolding tagged sheet
tagged_plain = refl

tagged_own : map own_line tagged ≡ tagged
unfolding tagged sheet
tagged_own = refl

tagged_long : length tagged ≡ 17
unfolding tagged
tagged_long = refl

holds : (kind : Kind) (x : ℤ) → spans kind ≡ true → Within kind.low kind.high x → Holds kind x
holds kind x e w =
    let all = 256 ^ kind.bytes in
    by_cases kind.signed
    (λ s.
    let both = and_split (minus (all / 2) ≤? kind.low) (kind.high <? pos (all / 2)) (rw s at e) in
    signed s (omega (arith, ints)) (omega (arith, ints)))
    (λ s.
    let both = and_split (pos 0 ≤? kind.low) (kind.high <? pos all) (rw s at e) in
    unsigned s (omega (arith, ints)) (omega (arith, ints)))

-- what is used of a line, and of the value that is told of it
record Good (t : Told) (l : Line) : Type 0 where
  size : is_size l.kind.bytes ≡ true
  tags : is_tagged tagged l.index l.sub ≡ true
  range : Within l.kind.low l.kind.high (t.value l.index l.sub)
  holds : Holds l.kind (t.value l.index l.sub)

abbrev Goods : Told → List Line → Type 0
Goods t [] = Unit {0}
Goods t (l ∷ lines) = Good t l × Goods t lines

goods : (t : Told) → in_range sheet t.value ≡ true → (lines : List Line) → are_plain lines ≡ true → map own_line lines ≡ lines → Goods t lines
goods t r [] e own = tt
goods t r (l ∷ lines) e own =
    let all = and_split (is_plain l) (are_plain lines) e in
    let four = and_split (is_size l.kind.bytes && is_tagged tagged l.index l.sub) (is_held l && spans l.kind) all.0 in
    let one = and_split (is_size l.kind.bytes) (is_tagged tagged l.index l.sub) four.0 in
    let two = and_split (is_held l) (spans l.kind) four.1 in
    let same : own_line l ≡ l = ap (λ x. get_or x 0 l) own in
    let range : Within l.kind.low l.kind.high (t.value l.index l.sub) =
    rw same at (held_in_range t.value l.index l.sub r (rw same two.0)) in (
      record { size = one.0; tags = one.1; range = range; holds = holds l.kind _ two.1 range },
      goods t r lines all.1 (ap (drop 1) own),
    )

tagged_goods : (t : Told) → sound t ≡ true → Goods t tagged
tagged_goods t s = goods t (sound_parts t s).ranged tagged tagged_plain tagged_own

-- ---- the fields of good lines, one after the other

-- how many bytes they have
abbrev total : List Line → ℕ
total [] = 0
total (l ∷ lines) = 3 + l.kind.bytes + total lines

module _ (t : Told) where
  abbrev number : Line → ℕ
  number l = number_for l.kind (t.value l.index l.sub)

  -- those of a line and of others begin with its field
  tells_first :
      (tag : ℕ) (l : Line) (lines : List Line) → Good t l →
      Tells tag (number l) (fields (suc tag) lines t) l.kind.bytes (fields tag (l ∷ lines) t)
  unfolding fields
  tells_first tag l lines g = tells tag (number l) (fields (suc tag) lines t) l.kind.bytes g.size

  fields_long : (tag : ℕ) (lines : List Line) → Goods t lines → length (fields tag lines t) ≡ total lines
  unfolding fields
  fields_long tag [] g = refl
  fields_long tag (l ∷ lines) g = (tells_first tag l lines g.0).long ∙ ap (λ (n : ℕ). 3 + l.kind.bytes + n) (fields_long (suc tag) lines g.1)

  fields_headed : (tag : ℕ) (lines : List Line) → Goods t lines → headed tag lines (fields tag lines t) ≡ true
  unfolding headed
  fields_headed tag [] g = refl
  fields_headed tag (l ∷ lines) g =
      let f = tells_first tag l lines g.0 in
      and_both (and_both (eq-eqb _ _ f.tag_first) (eq-eqb _ _ f.size)) (rw f.after (fields_headed (suc tag) lines g.1))

  value_first :
      (tag : ℕ) (l : Line) (lines : List Line) → Good t l →
      stands_for l.kind (four_from (fields tag (l ∷ lines) t) 3) ≡ t.value l.index l.sub
  value_first tag l lines g =
      let span = span_of l.kind.bytes g.size in
      let few = number_below l.kind _ span g.holds in
      stands_back l.kind _ span g.holds _ ((tells_first tag l lines g).value few)

  fields_values :
      (tag : ℕ) (lines : List Line) → Goods t lines → (old : ℕ → ℕ → ℤ) (index sub : ℕ) →
      values_in lines (fields tag lines t) old index sub ≡ (if is_tagged lines index sub then t.value index sub else old index sub)
  unfolding values_in
  fields_values tag [] g old index sub = refl
  fields_values tag (l ∷ lines) g old index sub =
      by_cases (l.index is index && l.sub is sub)
      (λ e.
      let both = and_split (l.index is index) (l.sub is sub) e in
      rw e (value_first tag l lines g.0 ∙ ap₂ t.value (eqb-true _ _ both.0) (eqb-true _ _ both.1)))
      (λ e. rw (e, (tells_first tag l lines g.0).after) (fields_values (suc tag) lines g.1 old index sub))

  -- a turn of the walk at byte k, where the fields of some lines stand to the end
  module _ (bytes : List ℕ) (k from : ℕ) (l : Line) (lines : List Line) (g : Good t l) (e : drop k bytes ≡ fields from (l ∷ lines) t) where
    here : Tells from (number l) (fields (suc from) lines t) l.kind.bytes (drop k bytes)
    here = rw e (tells_first from l lines g)

    left : length bytes ≡ k + 3 + l.kind.bytes + length (fields (suc from) lines t)
    left = omega (arith, length-drop k bytes, here.long)

    beyond : drop (k + 3 + l.kind.bytes) bytes ≡ fields (suc from) lines t
    beyond = rw add_assoc (rw drop-drop at here.after)

    turn :
        (fuel tag : ℕ) →
        search_from (suc fuel) bytes tag k
        ≡ (if from is tag then found 0 (k + 3) (take l.kind.bytes (low_first (number l))) else search_from fuel bytes tag (k + 3 + l.kind.bytes))
    unfolding search_from
    turn fuel tag =
        let long = left in
        let second : k + 1 + 1 ≡ k + 2 = omega arith in
        let cut : (n : ℕ) → n ≤ length bytes → (length bytes below n) ≡ false = λ n. le-ltb (length bytes) n in
        rw (
          second,
          simp get_or-drop at here.size,
          simp (get_or-drop, add-zero) at here.tag_first,
          rw drop-drop at here.part,
          cut (k + 1) (omega arith),
          cut (k + 3) (omega arith),
          cut (k + 3 + l.kind.bytes) (omega arith),
        )

  -- so it finds the tag that is n after the first
  module _ (bytes : List ℕ) (tag : ℕ) (other : Line) where
    walk :
        (fuel from k n : ℕ) (lines : List Line) → Goods t lines → drop k bytes ≡ fields from lines t → length bytes < fuel + k →
        n < length lines → tag ≡ n + from →
        let l = get_or lines n other in
        let r = search_from fuel bytes tag k in
        (r.number ≡ 0) × (r.part ≡ take l.kind.bytes (low_first (number l)))
    walk fuel from k n [] g e more h this = absurd (omega arith)
    walk zero from k n (l ∷ lines) g e more h this = absurd (omega (arith, left bytes k from l lines g.0 e))
    walk (suc fuel) from k zero (l ∷ lines) g e more h this =
        rw (turn bytes k from l lines g.0 e fuel tag, eq-eqb from tag (omega arith)) (refl, refl)
    walk (suc fuel) from k (suc n) (l ∷ lines) g e more h this =
        rw (turn bytes k from l lines g.0 e fuel tag, ne_eqb from tag (λ q. omega arith))
        (walk fuel (suc from) _ n lines g.1 (beyond bytes k from l lines g.0 e) (omega arith) (omega arith) (omega arith))

-- ---- the image of a sound state

module _ (t : Told) (s : sound t ≡ true) where
  image_long : length (image t) ≡ 97
  unfolding image tagged sheet
  image_long = fields_long t 1 tagged (tagged_goods t s)

  image_full : full (image t) ≡ true
  unfolding image full
  image_full = and_both (eq-eqb _ _ image_long) (fields_headed t 1 tagged (tagged_goods t s))

  image_loaded : (into : Told) → loaded (image t) into ≡ settings_of t into
  unfolding image
  image_loaded into = fun_ext (λ index. fun_ext (λ sub. fields_values t 1 tagged (tagged_goods t s) into.value index sub))

  settings_range : (into : Told) (lines : List Line) → Goods t lines → in_range lines (settings_of t into) ≡ true
  unfolding in_range
  settings_range into [] g = refl
  settings_range into (l ∷ lines) g =
      let x = t.value l.index l.sub in
      let r = g.0.range in
      let low : (l.kind.low ≤? x) ≡ true = omega (arith, ints) in
      let high : (x ≤? l.kind.high) ≡ true = omega (arith, ints) in
      rw (g.0.tags, low, high, or-true) (settings_range into lines g.1)

  limits_same : (into : Told) → (settings_of t into 0x6321 1 ≤? settings_of t into 0x6320 1) ≡ (t.value 0x6321 1 ≤? t.value 0x6320 1)
  unfolding tagged sheet
  limits_same into = refl

  image_fits : (into : Told) → fits (image t) into ≡ true
  unfolding fits
  image_fits into = rw (image_loaded into) (and_both (settings_range into tagged (tagged_goods t s)) (limits_same into ∙ (sound_parts t s).limits))

  image_search :
      (k : ℕ) → k < 17 →
      let l = get_or tagged k (line_at 0 0) in
      let r = Image.search (image t) (k + 1) in
      (r.number ≡ 0) × (r.part ≡ take l.kind.bytes (low_first (number_for l.kind (t.value l.index l.sub))))
  unfolding image Image.search
  image_search k h =
      walk t (image t) (k + 1) (line_at 0 0) (suc (length (image t))) 1 0 k tagged (tagged_goods t s) refl (omega arith) (rw tagged_long h) refl

-- ---- the calls

module _ (L : Library) (p : Promises L) (s : L.State) (ok : sound (L.told s) ≡ true) where
  -- the first 97 bytes after a store
  store_image : (room : List ℕ) → 97 ≤ length room → take 97 (L.answer (store room) s).reply.room ≡ image (L.told s)
  store_image room h =
      let done = p.done (store room) s (p.number (store room) s ∙ rw (ok, le-ltb (length room) 97 h)) in
      ap (λ (r : Reply). take 97 r.room) done.1 ∙ take_at (image (L.told s)) (drop 97 room) 97 (image_long (L.told s) ok)

  pub stored :
      (e : L.State) (room : List ℕ) → sound (L.told e) ≡ true → (L.told e).state ≡ 0 → 97 ≤ length room →
      let a = L.answer (load (take 97 (L.answer (store room) s).reply.room)) e in
      (a.reply.number ≡ 0)
      × (L.told a.state ≡ holding (L.told e).selected (settings_of (L.told s) (L.told e)) (L.told e))
  stored e room g disabled h =
      let bytes = image (L.told s) in
      let number : (L.answer (load bytes) e).reply.number ≡ 0 =
      p.number (load bytes) e ∙ rw (g, image_full (L.told s) ok, image_fits (L.told s) ok (L.told e), disabled) in
      rw (store_image room h)
      (number, (p.done (load bytes) e number).0 ∙ ap (λ v. holding (L.told e).selected v (L.told e)) (image_loaded (L.told s) ok (L.told e)))

  pub tag_found :
      (room : List ℕ) (k : ℕ) → 97 ≤ length room → k < 17 →
      let l = get_or tagged k (line_at 0 0) in
      let r = (L.answer (search (take 97 (L.answer (store room) s).reply.room) (k + 1)) s).reply in
      (r.number ≡ 0)
      × (r.part ≡ take l.kind.bytes (low_first (number_for l.kind ((L.told s).value l.index l.sub))))
  tag_found room k h few =
      let bytes = image (L.told s) in
      let found = image_search (L.told s) ok k few in
      let number : (L.answer (search bytes (k + 1)) s).reply.number ≡ 0 = p.number (search bytes (k + 1)) s ∙ rw found.0 in
      rw (store_image room h) (number, ap (λ (r : Reply). r.part) (p.done (search bytes (k + 1)) s number).1 ∙ found.1)
