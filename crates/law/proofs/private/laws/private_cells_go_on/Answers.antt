use Rattle.std.proofs.Common.{refl}
use Rattle.law.specs.private.Private.{locked_told, private_of}
use Rattle.law.specs.known.Items.{part_of}
use Rattle.law.proofs.private.Going_On.{same_set}
use Rattle.law.proofs.private.laws.private_cells_go_on.Goals as goal

pub returns-clause-none : goal.returns-clause-none
returns-clause-none c = λ cells d. refl

pub returns-clause-born : goal.returns-clause-born
returns-clause-born c = λ cells items d kind k number entries e. refl

pub returns-clause-freed : goal.returns-clause-freed
returns-clause-freed c = λ cells items d number entries e. refl

pub returns-clause-unlocked : goal.returns-clause-unlocked
returns-clause-unlocked c = λ cells items change number entries e. refl

pub returns-clause-offered : goal.returns-clause-offered
returns-clause-offered c = λ cells items d number entries e. refl

pub returns-clause-plain : goal.returns-clause-plain
returns-clause-plain c = λ cells items s number entries d plain. same_set (part_of cells items).frame
    (locked_told cells items) s (private_of cells items) d plain

pub returns-clause-saw : goal.returns-clause-saw
returns-clause-saw c = λ cells items w number d. refl

pub returns-clause-lost : goal.returns-clause-lost
returns-clause-lost c = λ cells items w number d. refl
