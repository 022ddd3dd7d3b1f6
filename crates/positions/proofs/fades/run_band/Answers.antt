-- `positions::fades::run_band` meets its contract: outside a fade it is the level's band. Assumes nothing.
use Rattle.positions.proofs.fades.run_band.Goals as goal

pub returns : goal.returns
returns c = λ z. absurd (c.if-p-eq0.false z)
