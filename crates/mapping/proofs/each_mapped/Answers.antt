-- The entries that are tested are the first n.
use Rattle.std.proofs.Common.{rules, ◌∙◌, arith}
use Rattle.std.proofs.lemmas.Iterator.{YieldsList-from_slice}
use Rattle.std.proofs.lemmas.Iterator.Search.{all_from_yields_List}
use Rattle.integers.specs.Words.{◌among◌}
use Rattle.mapping.specs.Rules.{each_mapped}
use Rattle.mapping.proofs.Laws.{all_of_first}
use Rattle.mapping.proofs.each_mapped.Goals as goal

pub returns : goal.returns
unfolding each_mapped
returns c =
    all_from_yields_List (λ entry. entry among c.args.mappable) _ _ _ c.all.ensures.ran (YieldsList-from_slice _ (cc)) (λ x b q k. search rules)
    ∙ all_of_first (λ entry. entry among c.args.mappable) c.args.map.entries c.args.n (omega arith)
