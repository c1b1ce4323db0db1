use Rattle.people.proofs.Quoting.{name_written}
use Rattle.people.specs.Quoted.{counted_names}
use Rattle.people.proofs.quoted.CountedNamesDisplay.fmt.Goals as goal

pub loop-row-preserved : goal.loop-row-preserved
loop-row-preserved g c =
    name_written g.W.Write.write_str_gives c.args.f.now (counted_names c.args.self.now.text.now c.args.self.now.rows.now) c.args.self.now.text.now c.args.self.now.rows.now c.loop-row.row-index _ c.loop-row-test.true c.loop-row.f c.write_name.new.f c.loop-row.invariant c.in_ok-write_name.ensures
