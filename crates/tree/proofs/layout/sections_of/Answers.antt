use Rattle.std.proofs.Common.{◌≡◌, ◌∙◌, ◌<◌, ◌≤◌, ◌/◌, length, rules, arith}
use Rattle.std.specs.Simd.{first_chunks}
use Rattle.tree.specs.Block.{rows_offset, rows_length, text_offset, text_length}
use Rattle.tree.proofs.Sections.{cut, number_from, rows_cut_from}
use Rattle.tree.proofs.layout.sections_of.Goals as goal

pub returns : goal.returns
returns c =
    let block = c.args.block.now in
    let k = length block / 4 in
    let section = c.in_ok-get.ensures.lookup.0 in
    let text = c.in_ok-text.ensures.lookup.0 in
    let front : c.as_chunks.result.0.now ≡ first_chunks 4 k block = search rules in
    let four : 4 ≤ k = search rules in
    let rows_from : c.from_le_bytes-rows_offset.result ≡ rows_offset block = number_from block _ k 0 _ front (omega arith) (search rules) in
    let rows_many : c.from_le_bytes.result ≡ rows_length block = number_from block _ k 1 _ front (omega arith) (search rules) in
    let text_from : c.from_le_bytes-text_offset.result ≡ text_offset block = number_from block _ k 2 _ front (omega arith) (search rules) in
    let text_many : c.from_le_bytes-2.result ≡ text_length block = number_from block _ k 3 _ front (omega arith) (search rules) in
    let some : 0 < length c.as_chunks-2.result.0.now = search rules in
    let whole : length c.as_chunks-2.result.1.now ≡ 0 = search rules in
    record {
      layout = search (rules, rows_from, rows_many, text_from, text_many);
      same_rows = rows_cut_from c.in_ok-get.field-0.now _ _ _ c.as_chunks-2.ensures.front (section.2 ∙ cut block _ _ _ _ rows_from rows_many) (omega arith);
      same_text = text.2 ∙ cut block _ _ _ _ text_from text_many;
    }
