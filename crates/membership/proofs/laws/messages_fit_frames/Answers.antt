use Rattle.membership.proofs.Fits.{table_fits_frames}
use Rattle.membership.proofs.laws.messages_fit_frames.Goals as goal

pub returns : goal.returns
returns c = table_fits_frames
