use Rattle.calls.proofs.Sampled.{integers_lawful_all, sample_obeys}
use Rattle.calls.proofs.PageLife.{page_life_obeys}
use Rattle.calls.proofs.laws.rules_can_be_met.Goals as goal

pub returns : goal.returns
returns c = record { lawful = integers_lawful_all; sample = sample_obeys; life = page_life_obeys }
