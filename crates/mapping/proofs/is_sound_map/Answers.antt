-- Each entry is tested with its place.
use Rattle.std.proofs.Common.{rules, ℕ, length, ◌≡◌, ◌∙◌}
use Rattle.std.proofs.lemmas.Iterator.{YieldsList-from_slice}
use Rattle.std.proofs.lemmas.Iterator.Consumers.{YieldsList-from_enumerate}
use Rattle.std.proofs.lemmas.Iterator.Search.{all_from_yields_List}
use borrow.Author.Tests.{le-ltb}
use Rattle.mapping.specs.Maps.{ENTRIES}
use Rattle.mapping.specs.Sound.{may_stand, sound_map}
use Rattle.mapping.proofs.Laws.{all_of_four}
use Rattle.mapping.proofs.is_sound_map.Goals as goal

pub returns : goal.returns
unfolding sound_map
returns c =
    let s = c.args in
    let long : length s.map.entries ≡ ENTRIES = search rules in
    rw (long, le-ltb _ _ c.if-count-gt-ENTRIES.false)
    (all_from_yields_List (λ (p : ℕ × ℕ). may_stand s.mappable s.map.count p.0 p.1) _ _ _ c.all.ensures.ran (YieldsList-from_enumerate (YieldsList-from_slice s.map.entries (cc)) (cc)) (λ x b q k. search rules)
    ∙ all_of_four (may_stand s.mappable s.map.count) s.map.entries long)
