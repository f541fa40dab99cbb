use Rattle.c_entry.proofs.Determined.{image_call_agrees, image_calls_agree}
use Rattle.c_entry.proofs.laws.image_calls_agree.Goals as goal

pub returns : goal.returns
returns c = record { single = image_call_agrees; list = image_calls_agree }
