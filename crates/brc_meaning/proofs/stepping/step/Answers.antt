use Rattle.brc_meaning.proofs.stepping.step.Goals as goal

pub returns-in-Get : goal.returns-in-Get
returns-in-Get g c = rw c.in-Get.is c.call-in-Get.ensures

pub returns-in-Find : goal.returns-in-Find
returns-in-Find g c = rw c.in-Find.is c.call_at.ensures

pub returns-in-Delete : goal.returns-in-Delete
returns-in-Delete g c = rw c.in-Delete.is c.call_at-in-Delete.ensures
