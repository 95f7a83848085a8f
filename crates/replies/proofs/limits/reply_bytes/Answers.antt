use Rattle.std.proofs.Common.{refl}
use Rattle.replies.proofs.Fits.{every_reply_fits}
use Rattle.replies.proofs.limits.reply_bytes.Goals as goal

pub returns : goal.returns
returns c = record { exact = refl; enough = every_reply_fits }
