-- The loop has shown both tests of each place that it passed, so those of each of the two. Where it stops early, one of them fails.
use Rattle.std.proofs.Common.{◌≡◌, sym, ◌∙◌, Bool, true, false, List, length, ℕ, ℤ, arith, rules}
use mathlib.Core.Bool.{◌&&◌}
use borrow.Author.Tests.{eq-eqb}
use Rattle.integers.specs.Words.{each, ◌≤?◌}
use Rattle.integers.proofs.Each.{each_none, each_more, each_fails, and_across, each_and}
use Rattle.objects.specs.Places.{SETTINGS, UPPER_LIMIT, LOWER_LIMIT}
use Rattle.objects.specs.Table.{row_at, in_row}
use Rattle.block.specs.Block.{at}
use Rattle.block.specs.Sound.{sound_settings}
use Rattle.block.proofs.are_settings_sound.Goals as goal

abbrev in_range : List ℤ → ℕ → Bool
in_range settings place = in_row (row_at place) (at settings place)

abbrev both_in : List ℤ → List ℤ → ℕ → Bool
both_in settings others place = in_range settings place && in_range others place

abbrev uncrossed : List ℤ → Bool
uncrossed settings = at settings LOWER_LIMIT ≤? at settings UPPER_LIMIT

-- the definition, of two lists of the right length: the ranges of both, and the limits of both
both : (settings others : List ℤ) → length settings ≡ SETTINGS → length others ≡ SETTINGS → (each SETTINGS (both_in settings others) && (uncrossed settings && uncrossed others)) ≡ (sound_settings settings && sound_settings others)
unfolding sound_settings
both settings others l m =
    rw (eq-eqb (length settings) SETTINGS l, eq-eqb (length others) SETTINGS m, each_and SETTINGS (in_range settings) (in_range others))
    (and_across (each SETTINGS (in_range settings)) (each SETTINGS (in_range others)) (uncrossed settings) (uncrossed others))

pub loop-place-init : goal.loop-place-init
loop-place-init c = each_none _

pub loop-place-preserved : goal.loop-place-preserved
loop-place-preserved c = each_more _ _ c.loop-place.invariant (search (rules, c.if-not-are_in_range.ensures))

pub returns-then-not-are_in_range : goal.returns-then-not-are_in_range
returns-then-not-are_in_range c =
    let a = c.args in
    let here : both_in a.settings a.others c.loop-place.place ≡ false = search (rules, c.if-not-are_in_range.ensures) in
    (simp (each_fails SETTINGS (both_in a.settings a.others) c.loop-place.place (omega arith) here)) ∙ both a.settings a.others (search rules) (search rules)

pub returns-then-are_limits_sound : goal.returns-then-are_limits_sound
returns-then-are_limits_sound c =
    let a = c.args in
    let end : c.loop-place.place ≡ SETTINGS = omega arith in
    let passed : each SETTINGS (both_in a.settings a.others) ≡ true = rw end at c.loop-place.invariant in
    (c.are_limits_sound-then-are_limits_sound.ensures ∙ simp (passed, sym c.if-are_limits_sound.ensures)) ∙ both a.settings a.others (search rules) (search rules)
