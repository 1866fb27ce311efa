-- `rump::premises::last_premise` meets its contract.
use Rattle.theory.proofs.Prelude.{◌∙◌}
use Rattle.rump.proofs.Reach.{last_of}
use Rattle.rump.proofs.premises.last_premise.Goals as goal

pub returns : goal.returns
returns c = c.is_inner.ensures ∙ last_of _ c.args.x c.requires.kept
