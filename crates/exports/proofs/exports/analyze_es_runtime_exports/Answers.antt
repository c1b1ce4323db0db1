use Rattle.std.proofs.Common.{rules}
use Rattle.exports.proofs.Analysis.{listed_analysed, refused_analysed}
use Rattle.exports.proofs.exports.analyze_es_runtime_exports.Goals as goal

pub returns-then-is_err-clause-analysed : goal.returns-then-is_err-clause-analysed
returns-then-is_err-clause-analysed c =
    refused_analysed c.args.tables.now c.clear.new.self c.clear.ensures _ _ _ _ (search rules) c.list_items-listed.result c.list_items-listed.ensures (search rules) c.clear-then-is_err.new.self c.clear-then-is_err.ensures

pub returns-else-is_err-clause-analysed : goal.returns-else-is_err-clause-analysed
returns-else-is_err-clause-analysed c =
    listed_analysed c.args.tables.now c.clear.new.self c.clear.ensures _ _ _ _ (search rules) c.list_items-listed.result c.list_items-listed.ensures (search rules)
