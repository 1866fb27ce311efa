-- `rounding::cutting::exact_cut` meets its contract.
use Rattle.theory.proofs.Prelude.{sym}
use Rattle.rounding.proofs.Normals.{extended_cut}
use Rattle.rounding.proofs.cutting.exact_cut.Goals as goal

pub returns : goal.returns
returns c = sym (extended_cut c.requires.0 c.args.place c.normalise-full.ensures)
