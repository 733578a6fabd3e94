use Rattle.law.specs.declared.rule.told.LogItem.TheVariants.{Stepped}
use Rattle.brc_table.specs.Moving.{put_home}
use Rattle.brc_table.proofs.Giving.{gives_few}
use Rattle.brc_table.proofs.moving.give.Goals as goal

pub give_as-requires-clause-allowed : goal.give_as-requires-clause-allowed
give_as-requires-clause-allowed g c =
    let me = c.args.seat.now.me in
    gives_few c.args.table.now.cells c.args.table.now.local_limit c.args.seat.now.id me.0 me.1 c.args.word
    (λ _. c.args.new) (λ _. Stepped c.args.step c.args.new (put_home me.1)) c.requires.active c.requires.some_thread
    c.requires.allowed
