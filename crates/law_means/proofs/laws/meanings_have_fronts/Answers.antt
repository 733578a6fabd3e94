use Rattle.law_means.proofs.Fronts_Law.{front_meant, stop_meant}
use Rattle.law_means.proofs.laws.meanings_have_fronts.Goals as goal

pub returns-clause-front : goal.returns-clause-front
returns-clause-front g c = front_meant

pub returns-clause-stop : goal.returns-clause-stop
returns-clause-stop g c = stop_meant
