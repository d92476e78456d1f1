-- The law, from the proofs of its parts.
use Rattle.modes.proofs.Modal.{stands}
use Rattle.modes.proofs.modes_stand.Goals as goal

pub returns : goal.returns
returns c = stands
