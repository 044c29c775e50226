-- A fresh device tells what the sheet says of a fresh state: each row's fresh value is its line's, by a test that is computed over the rows.
use Rattle.std.specs.Prelude.{if◌then◌else◌}
use mathlib.Core.Bool.{Bool, true, false, ◌&&◌}
use mathlib.Core.Path.{◌≡◌, refl, sym, ap, ◌∙◌, fun_ext}
use Prim.Native.Nat.{ℕ, ◌≤◌, ◌<◌}
use native.Mathlib.Omega.{arith}
use borrow.Author.Tests.{eqb-true, eqb-false, ltb-true}
use lib.IntN.{ℤ, pos}
use Rattle.integers.specs.Words.{each, ◌is◌, ◌=?◌}
use Rattle.integers.proofs.Cases.{by_cases}
use Rattle.integers.proofs.Each.{and_split, each_at}
use Rattle.integers.proofs.Machine.{=?-yes}
use Rattle.objects.specs.Places.{SELECTION, POSITION, PRESSURE}
use Rattle.objects.specs.Table.{objects, row_at}
use Rattle.block.specs.Block.{fresh_block}
use Rattle.mapping.specs.Maps.{stands_at, fresh_map, fresh_maps}
use Rattle.dither.specs.Dither.{fresh_dither}
use Rattle.dither.specs.Dither as Dithers
use Rattle.device.specs.Device.{fresh_device, block_of}
use Rattle.device.proofs.Laws.{fresh_sound}
use Rattle.dictionary.specs.Named.{nothing, named}
use Rattle.dictionary.specs.Values.{value_at}
use Rattle.dictionary.specs.declared.Abort.{Abort}
use Rattle.dictionary.specs.declared.Abort.TheVariants.{NoObject, NoSubIndex}
use Rattle.promises.specs.Sheet.{line_at, has_entry, is_held}
use Rattle.promises.specs.Promises.{fresh_told}
use Rattle.promises.proofs.Sheets.{unheld}
use Rattle.kept.specs.Ours.{told_of}
use Rattle.kept.proofs.Lines.{no_object, no_entry, by_entry}
use Rattle.kept.proofs.Plain.{held_by, plain_told, sound_told, held_told}

-- ---- the rows

abbrev fresh_at : ℕ → ℕ → Bool
fresh_at which place = value_at fresh_device which place =? (row_at place).fresh

fresh_rows : each SELECTION (λ place. fresh_at POSITION place && fresh_at PRESSURE place) ≡ true
unfolding each objects value_at fresh_device block_of fresh_block stands_at fresh_maps fresh_map Dithers.stands_at fresh_dither
fresh_rows = refl

fresh_row : (which place : ℕ) → which ≤ PRESSURE → place < SELECTION → value_at fresh_device which place ≡ (row_at place).fresh
fresh_row which place w h =
    let both = and_split (fresh_at POSITION place) (fresh_at PRESSURE place) (each_at SELECTION (λ place. fresh_at POSITION place && fresh_at PRESSURE place) place fresh_rows h) in
    by_cases (which is POSITION)
    (λ e. rw (eqb-true which POSITION e) (=?-yes _ _ both.0))
    (λ e. let one : which ≡ PRESSURE = omega (arith, eqb-false which POSITION e) in rw one (=?-yes _ _ both.1))

-- ---- the lines

-- what has no line holds 0
pub unlisted : (index sub : ℕ) → has_entry index sub ≡ false → {X : Type 0} → ((abort : Abort) → named index sub ≡ nothing abort → X) → X
unlisted index sub h f =
    by_cases (has_entry index 0) (λ e. f NoSubIndex (no_entry index sub e h)) (λ e. f NoObject (no_object index sub e))

fresh_value : (index sub : ℕ) → held_by fresh_device index sub ≡ (if is_held (line_at index sub) then (line_at index sub).fresh else pos 0)
fresh_value index sub =
    by_cases (has_entry index sub)
    (λ h. by_entry index sub h
    (λ which place e o a.
    by_cases (is_held (line_at index sub))
    (λ k.
    let early : place < SELECTION = ltb-true place SELECTION (sym a.held ∙ k) in
    rw (k, held_told fresh_device index sub which place e early, a.fresh k) (fresh_row which place o.block early))
    (λ k. rw (k, e, sym a.held ∙ k)))
    (λ number e b. rw (e, b.read_only)))
    (λ h. unlisted index sub h (λ abort e. rw (unheld index sub h, e)))

pub fresh_told_lem : told_of fresh_device ≡ fresh_told
fresh_told_lem = sound_told fresh_sound ∙ plain
  where
    values : held_by fresh_device ≡ (λ index sub. if is_held (line_at index sub) then (line_at index sub).fresh else pos 0)
    values = fun_ext (λ index. fun_ext (λ sub. fresh_value index sub))

    plain : plain_told fresh_device ≡ fresh_told
    plain = unfold fresh_device fresh_block fresh_dither fresh_told in
        ap (λ (v : ℕ → ℕ → ℤ). record { state = 0; control = 0; error = 0; selected = 0; position = pos 0; other = pos 0; phase = 0; value = v }) values
