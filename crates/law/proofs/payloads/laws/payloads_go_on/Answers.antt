use Rattle.std.proofs.Common.{refl}
use Rattle.law.proofs.payloads.Going_On.{born, freed, offered, shared, changed, outside, plain, found}
use Rattle.law.proofs.payloads.laws.payloads_go_on.Goals as goal

pub returns-clause-none : goal.returns-clause-none
returns-clause-none c = λ n d. refl

pub returns-clause-born : goal.returns-clause-born
returns-clause-born c = born

pub returns-clause-freed : goal.returns-clause-freed
returns-clause-freed c = freed

pub returns-clause-offered : goal.returns-clause-offered
returns-clause-offered c = offered

pub returns-clause-shared : goal.returns-clause-shared
returns-clause-shared c = shared

pub returns-clause-changed : goal.returns-clause-changed
returns-clause-changed c = changed

pub returns-clause-outside : goal.returns-clause-outside
returns-clause-outside c = outside

pub returns-clause-plain : goal.returns-clause-plain
returns-clause-plain c = plain

pub returns-clause-found : goal.returns-clause-found
returns-clause-found c = found

pub returns-clause-saw : goal.returns-clause-saw
returns-clause-saw c = λ n log w number d. refl

pub returns-clause-lost : goal.returns-clause-lost
returns-clause-lost c = λ n log w number d. refl
