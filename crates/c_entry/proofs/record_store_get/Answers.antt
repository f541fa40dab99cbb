use Rattle.c_entry.proofs.Entering.{get_alters_nothing}
use Rattle.c_entry.proofs.record_store_get.Goals as goal

pub returns-clause-same : goal.returns-clause-same
returns-clause-same c = get_alters_nothing _ _ _ _ _ c.enter.ensures
