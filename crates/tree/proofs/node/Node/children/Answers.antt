use Rattle.tree.proofs.Direct.{children_are_enclosed_directly, children_carry_their_rows, children_stand_in_order}
use Rattle.tree.proofs.node.Node.children.Goals as goal

pub returns-clause-direct : goal.returns-clause-direct
returns-clause-direct c = children_are_enclosed_directly

pub returns-clause-ordered : goal.returns-clause-ordered
returns-clause-ordered c = children_stand_in_order

pub returns-clause-carried : goal.returns-clause-carried
returns-clause-carried c = children_carry_their_rows
