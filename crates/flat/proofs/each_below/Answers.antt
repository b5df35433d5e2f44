use Rattle.std.proofs.Common.{◌&&◌, ltb, true, rules, tests, ◌∙◌}
use Rattle.std.proofs.lemmas.Iterator.{YieldsList-from_slice}
use Rattle.std.proofs.lemmas.Iterator.Consumers.{fold_from_yields_List}
use Rattle.flat.proofs.Flat.{below_fold}
use Rattle.flat.proofs.each_below.Goals as goal

pub returns : goal.returns
returns c =
    fold_from_yields_List _ (λ ok x. ok && ltb x c.args.bound) _ _ c.fold.ensures.ran (YieldsList-from_slice c.args.part.now cc)
    (λ a x b q k. search (rules, tests))
    ∙ below_fold c.args.bound true c.args.part.now
