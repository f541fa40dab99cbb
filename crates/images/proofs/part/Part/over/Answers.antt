use Rattle.images.proofs.part.Part.over.Goals as goal

pub returns-clause-written : goal.returns-clause-written
returns-clause-written g c = rw (← c.FORMAT.ensures) c.layout_of-layout.ensures.written
