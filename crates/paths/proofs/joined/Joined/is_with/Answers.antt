use Rattle.paths.specs.Joined.{joined_names}
use Rattle.paths.proofs.Endings.{with_ending, without_ending}
use Rattle.paths.proofs.NamesWhole.{names_whole}
use Rattle.paths.proofs.joined.Joined.is_with.Goals as goal

pub returns-in-Some : goal.returns-in-Some
returns-in-Some c =
    let cases = c.in-Some.ensures.cases in
    with_ending c.args.text.now c.args.ending.now (joined_names c.args.self) (names_whole c.args.self) c.args.self.some c.in-Some.stem.now c.is_all_of.result cases.0 cases.1 c.is_all_of.ensures

pub returns-in-None : goal.returns-in-None
returns-in-None c = without_ending c.args.text.now c.args.ending.now (joined_names c.args.self) (names_whole c.args.self) c.args.self.some c.in-None.ensures.cases
