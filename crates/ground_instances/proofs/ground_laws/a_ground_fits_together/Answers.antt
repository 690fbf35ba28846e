use Rattle.ground_instances.proofs.Fitting.{fit_together}
use Rattle.ground_instances.proofs.ground_laws.a_ground_fits_together.Goals as goal

pub returns : goal.returns
returns c g = fit_together _ _ _ _ _ _ _ g.sound
