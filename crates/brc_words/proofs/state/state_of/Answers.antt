use Rattle.brc_words.specs.declared.state.State.TheVariants.{Default, Queued, Merged}
use Rattle.brc_words.proofs.Spelled.{some_count}
use Rattle.brc_words.proofs.state.state_of.Goals as goal

pub returns-in-0-clause-found : goal.returns-in-0-clause-found
returns-in-0-clause-found c = some_count c.args.word Default c.in-0.is

pub returns-in-2-clause-found : goal.returns-in-2-clause-found
returns-in-2-clause-found c = some_count c.args.word Queued c.in-2.is

pub returns-in-3-clause-found : goal.returns-in-3-clause-found
returns-in-3-clause-found c = some_count c.args.word Merged c.in-3.is
