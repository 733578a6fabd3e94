use Rattle.law.proofs.lasting.Lasting.{others_own}
use Rattle.law.proofs.lasting.Standing.{queued_lasts}
use Rattle.law.proofs.world.Reached.{reached_sound}
use Rattle.law.proofs.lasting.laws.own_parts_last.Goals as goal

pub returns-clause-own : goal.returns-clause-own
returns-clause-own c = λ t h e reached ok others. others_own h e t (reached_sound h reached) ok others

pub returns-clause-queued : goal.returns-clause-queued
returns-clause-queued c = queued_lasts
