use Rattle.std.proofs.Common.{bit_or}
use Rattle.law.specs.declared.rule.told.LogItem.TheVariants.{Stepped}
use Rattle.brc_table.specs.Moving.{put_home}
use Rattle.brc_table.proofs.Giving.{gives_few}
use Rattle.brc_table.proofs.moving.give_bit.Goals as goal

pub give_bit_as-requires-clause-allowed : goal.give_bit_as-requires-clause-allowed
give_bit_as-requires-clause-allowed g c =
    let me = c.args.seat.now.me in
    gives_few c.args.table.now.cells c.args.table.now.local_limit c.args.seat.now.id me.0 me.1 c.args.word
    (λ there. bit_or there c.args.bits) (λ there. Stepped c.args.step there (put_home me.1))
    c.requires.active c.requires.some_thread c.requires.allowed
