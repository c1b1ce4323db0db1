use Rattle.std.proofs.Common.{rules, refl, inr}
use Rattle.answers.proofs.Lines.{found_in, tables_after}
use Rattle.answers.proofs.answer.BlockLines.try_small.Goals as goal

pub returns-then-is_whole : goal.returns-then-is_whole
returns-then-is_whole c =
    λ block of zero.
    let x = c.args.self.now in
    let y = c.analyse_tree-found.new in
    let a = found_in block c.args.tree.now x.small_cjs x.small_es c.analyse_tree-found.result y.cjs y.es c.analyse_tree-found.ensures.block of zero in
    (record { analysis = a; whole = search rules; cjs_within = search rules; es_within = search rules }, record { kind = refl; small = inr (tables_after block x.small_cjs x.small_es y.cjs y.es _ a); cjs = refl; es = refl })

pub returns-else-is_whole : goal.returns-else-is_whole
returns-else-is_whole c =
    λ block of zero.
    let x = c.args.self.now in
    let y = c.analyse_tree-found.new in
    let a = found_in block c.args.tree.now x.small_cjs x.small_es c.analyse_tree-found.result y.cjs y.es c.analyse_tree-found.ensures.block of zero in
    record { kind = refl; small = inr (tables_after block x.small_cjs x.small_es y.cjs y.es _ a); cjs = refl; es = refl }
