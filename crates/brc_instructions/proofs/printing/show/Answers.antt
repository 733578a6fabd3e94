use Rattle.std.proofs.Common.{Ok, Err, FitsSigned, rules, w64, ap}
use Rattle.std.proofs.lemmas.Result.{err_from_is_err_and}
use Rattle.brc_words.specs.declared.fault.Fault.TheVariants as faults
use Rattle.brc_count.proofs.law.living.Earlier.{later_both}
use Rattle.law_isolation.proofs.Calls_Mean.{kind_means, int_means, len_means, text_means}
use Rattle.brc_instructions.proofs.Looks.{later_kind, later_int, later_len, later_text}
use Rattle.brc_instructions.proofs.Follows_Of.{own_at}
use Rattle.brc_instructions.proofs.Shows_As.{shows_held_number, shows_text, shows_list, shows_dict, shows_mailbox}
use Rattle.brc_instructions.proofs.Shows_As.{refuses_number, refuses_text, refuses_entries, has_entries, shows_none}
use Rattle.brc_instructions.proofs.Shows_As.{none_made}
use Rattle.brc_instructions.proofs.Causes_Of.{int_room, text_room, len_room}
use Rattle.brc_instructions.proofs.printing.show.Goals as goal

pub returns-in_err-int_of-in-Int-clause-later : goal.returns-in_err-int_of-in-Int-clause-later
returns-in_err-int_of-in-Int-clause-later g c =
    later_both c.args.frame.now.seat.log c.kind_of.new.frame.seat.log c.int_of.new.frame.seat.log
    (later_kind c.args.frame.now c.kind_of.new.frame c.args.handle.now.place c.kind_of.result c.kind_of.ensures.looked)
    (later_int c.kind_of.new.frame c.int_of.new.frame c.args.handle.now.place c.int_of.result c.int_of.ensures.looked)

pub returns-in_err-int_of-in-Int-clause-shows : goal.returns-in_err-int_of-in-Int-clause-shows
returns-in_err-int_of-in-Int-clause-shows g c =
    let p = err_from_is_err_and c.from_residual.result c.from_residual.ensures.1 in
    let fault = c.in_err-int_of-in-Int.field-0.0 in
    rw (p.1, p.2) (λ base registers r s own is means.
    let kind = kind_means base c.args.frame.now c.kind_of.new.frame registers s
    (own_at c.kind_of.new.frame c.int_of.new.frame c.int_of.ensures.keeps.heap
    (later_int c.kind_of.new.frame c.int_of.new.frame c.args.handle.now.place c.int_of.result c.int_of.ensures.looked)
    own) r c.args.handle.now is means c.kind_of.result c.kind_of.ensures.looked in
    let told = int_means base c.kind_of.new.frame c.int_of.new.frame registers s own r c.args.handle.now is kind.0
    (Err fault) c.in_err-int_of-in-Int.ensures.looked c.in_err-int_of-in-Int.ensures.waited in
    (told.0, refuses_number r s c.kind_of.result c.in-Int.is kind.1 fault told.1))

pub returns-in_ok-int_of-in-Int-clause-later : goal.returns-in_ok-int_of-in-Int-clause-later
returns-in_ok-int_of-in-Int-clause-later g c =
    later_both c.args.frame.now.seat.log c.kind_of.new.frame.seat.log c.int_of.new.frame.seat.log
    (later_kind c.args.frame.now c.kind_of.new.frame c.args.handle.now.place c.kind_of.result c.kind_of.ensures.looked)
    (later_int c.kind_of.new.frame c.int_of.new.frame c.args.handle.now.place c.int_of.result c.int_of.ensures.looked)

pub returns-in_ok-int_of-in-Int-clause-shows : goal.returns-in_ok-int_of-in-Int-clause-shows
returns-in_ok-int_of-in-Int-clause-shows g c base registers r s own is means =
    let kind = kind_means base c.args.frame.now c.kind_of.new.frame registers s
    (own_at c.kind_of.new.frame c.int_of.new.frame c.int_of.ensures.keeps.heap
    (later_int c.kind_of.new.frame c.int_of.new.frame c.args.handle.now.place c.int_of.result c.int_of.ensures.looked)
    own) r c.args.handle.now is means c.kind_of.result c.kind_of.ensures.looked in
    let told = int_means base c.kind_of.new.frame c.int_of.new.frame registers s own r c.args.handle.now is kind.0
    (Ok c.in_ok-int_of-in-Int.field-0) c.in_ok-int_of-in-Int.ensures.looked c.in_ok-int_of-in-Int.ensures.waited in
    let fits : FitsSigned w64 c.in_ok-int_of-in-Int.field-0 = search rules in
    (told.0, shows_held_number r s c.in_ok-int_of-in-Int.field-0 fits told.1)

pub returns-in_err-bytes_of-in-Text-clause-later : goal.returns-in_err-bytes_of-in-Text-clause-later
returns-in_err-bytes_of-in-Text-clause-later g c =
    later_both c.args.frame.now.seat.log c.kind_of.new.frame.seat.log c.bytes_of.new.frame.seat.log
    (later_kind c.args.frame.now c.kind_of.new.frame c.args.handle.now.place c.kind_of.result c.kind_of.ensures.looked)
    (later_text c.kind_of.new.frame c.bytes_of.new.frame c.args.handle.now.place c.bytes_of.result
    c.bytes_of.ensures.looked)

pub returns-in_err-bytes_of-in-Text-clause-shows : goal.returns-in_err-bytes_of-in-Text-clause-shows
returns-in_err-bytes_of-in-Text-clause-shows g c =
    let p = err_from_is_err_and c.from_residual-in_err-bytes_of-in-Text.result
    c.from_residual-in_err-bytes_of-in-Text.ensures.1 in
    let fault = c.in_err-bytes_of-in-Text.field-0.0 in
    rw (p.1, p.2) (λ base registers r s own is means.
    let kind = kind_means base c.args.frame.now c.kind_of.new.frame registers s
    (own_at c.kind_of.new.frame c.bytes_of.new.frame c.bytes_of.ensures.keeps.heap
    (later_text c.kind_of.new.frame c.bytes_of.new.frame c.args.handle.now.place c.bytes_of.result
    c.bytes_of.ensures.looked) own) r c.args.handle.now is means c.kind_of.result c.kind_of.ensures.looked in
    let told = text_means base c.kind_of.new.frame c.bytes_of.new.frame registers s own r c.args.handle.now is kind.0
    (Err fault) c.in_err-bytes_of-in-Text.ensures.looked c.in_err-bytes_of-in-Text.ensures.waited in
    (told.0, refuses_text r s c.kind_of.result c.in-Text.is kind.1 fault told.1))

pub returns-in_ok-bytes_of-in-Text-clause-later : goal.returns-in_ok-bytes_of-in-Text-clause-later
returns-in_ok-bytes_of-in-Text-clause-later g c =
    later_both c.args.frame.now.seat.log c.kind_of.new.frame.seat.log c.bytes_of.new.frame.seat.log
    (later_kind c.args.frame.now c.kind_of.new.frame c.args.handle.now.place c.kind_of.result c.kind_of.ensures.looked)
    (later_text c.kind_of.new.frame c.bytes_of.new.frame c.args.handle.now.place c.bytes_of.result
    c.bytes_of.ensures.looked)

pub returns-in_ok-bytes_of-in-Text-clause-shows : goal.returns-in_ok-bytes_of-in-Text-clause-shows
returns-in_ok-bytes_of-in-Text-clause-shows g c base registers r s own is means =
    let kind = kind_means base c.args.frame.now c.kind_of.new.frame registers s
    (own_at c.kind_of.new.frame c.bytes_of.new.frame c.bytes_of.ensures.keeps.heap
    (later_text c.kind_of.new.frame c.bytes_of.new.frame c.args.handle.now.place c.bytes_of.result
    c.bytes_of.ensures.looked) own) r c.args.handle.now is means c.kind_of.result c.kind_of.ensures.looked in
    let told = text_means base c.kind_of.new.frame c.bytes_of.new.frame registers s own r c.args.handle.now is kind.0
    (Ok c.in_ok-bytes_of-in-Text.field-0) c.in_ok-bytes_of-in-Text.ensures.looked
    c.in_ok-bytes_of-in-Text.ensures.waited in
    (told.0, shows_text r s c.in_ok-bytes_of-in-Text.field-0 told.1)

pub returns-in_err-len_of-in-List-clause-later : goal.returns-in_err-len_of-in-List-clause-later
returns-in_err-len_of-in-List-clause-later g c =
    later_both c.args.frame.now.seat.log c.kind_of.new.frame.seat.log c.len_of.new.frame.seat.log
    (later_kind c.args.frame.now c.kind_of.new.frame c.args.handle.now.place c.kind_of.result c.kind_of.ensures.looked)
    (later_len c.kind_of.new.frame c.len_of.new.frame c.args.handle.now.place c.len_of.result c.len_of.ensures.looked)

pub returns-in_err-len_of-in-List-clause-shows : goal.returns-in_err-len_of-in-List-clause-shows
returns-in_err-len_of-in-List-clause-shows g c =
    let p = err_from_is_err_and c.from_residual-in_err-len_of-in-List.result
    c.from_residual-in_err-len_of-in-List.ensures.1 in
    let fault = c.in_err-len_of-in-List.field-0.0 in
    rw (p.1, p.2) (λ base registers r s own is means.
    let kind = kind_means base c.args.frame.now c.kind_of.new.frame registers s
    (own_at c.kind_of.new.frame c.len_of.new.frame c.len_of.ensures.keeps.heap
    (later_len c.kind_of.new.frame c.len_of.new.frame c.args.handle.now.place c.len_of.result c.len_of.ensures.looked)
    own) r c.args.handle.now is means c.kind_of.result c.kind_of.ensures.looked in
    let told = len_means base c.kind_of.new.frame c.len_of.new.frame registers s own r c.args.handle.now is kind.0
    (Err fault) c.in_err-len_of-in-List.ensures.looked c.in_err-len_of-in-List.ensures.waited in
    (told.0, refuses_entries r s c.kind_of.result (ap has_entries c.in-List.is) kind.1 fault told.1))

pub returns-in_ok-len_of-in-List-clause-later : goal.returns-in_ok-len_of-in-List-clause-later
returns-in_ok-len_of-in-List-clause-later g c =
    later_both c.args.frame.now.seat.log c.kind_of.new.frame.seat.log c.len_of.new.frame.seat.log
    (later_kind c.args.frame.now c.kind_of.new.frame c.args.handle.now.place c.kind_of.result c.kind_of.ensures.looked)
    (later_len c.kind_of.new.frame c.len_of.new.frame c.args.handle.now.place c.len_of.result c.len_of.ensures.looked)

pub returns-in_ok-len_of-in-List-clause-shows : goal.returns-in_ok-len_of-in-List-clause-shows
returns-in_ok-len_of-in-List-clause-shows g c base registers r s own is means =
    let kind = kind_means base c.args.frame.now c.kind_of.new.frame registers s
    (own_at c.kind_of.new.frame c.len_of.new.frame c.len_of.ensures.keeps.heap
    (later_len c.kind_of.new.frame c.len_of.new.frame c.args.handle.now.place c.len_of.result c.len_of.ensures.looked)
    own) r c.args.handle.now is means c.kind_of.result c.kind_of.ensures.looked in
    let told = len_means base c.kind_of.new.frame c.len_of.new.frame registers s own r c.args.handle.now is kind.0
    (Ok c.in_ok-len_of-in-List.field-0) c.in_ok-len_of-in-List.ensures.looked c.in_ok-len_of-in-List.ensures.waited in
    (told.0, shows_list r s c.kind_of.result c.in-List.is kind.1 c.in_ok-len_of-in-List.field-0 told.1)

pub returns-in_err-len_of-in-Dict-clause-later : goal.returns-in_err-len_of-in-Dict-clause-later
returns-in_err-len_of-in-Dict-clause-later g c =
    later_both c.args.frame.now.seat.log c.kind_of.new.frame.seat.log c.len_of-in-Dict.new.frame.seat.log
    (later_kind c.args.frame.now c.kind_of.new.frame c.args.handle.now.place c.kind_of.result c.kind_of.ensures.looked)
    (later_len c.kind_of.new.frame c.len_of-in-Dict.new.frame c.args.handle.now.place c.len_of-in-Dict.result
    c.len_of-in-Dict.ensures.looked)

pub returns-in_err-len_of-in-Dict-clause-shows : goal.returns-in_err-len_of-in-Dict-clause-shows
returns-in_err-len_of-in-Dict-clause-shows g c =
    let p = err_from_is_err_and c.from_residual-in_err-len_of-in-Dict.result
    c.from_residual-in_err-len_of-in-Dict.ensures.1 in
    let fault = c.in_err-len_of-in-Dict.field-0.0 in
    rw (p.1, p.2) (λ base registers r s own is means.
    let kind = kind_means base c.args.frame.now c.kind_of.new.frame registers s
    (own_at c.kind_of.new.frame c.len_of-in-Dict.new.frame c.len_of-in-Dict.ensures.keeps.heap
    (later_len c.kind_of.new.frame c.len_of-in-Dict.new.frame c.args.handle.now.place c.len_of-in-Dict.result
    c.len_of-in-Dict.ensures.looked) own) r c.args.handle.now is means c.kind_of.result c.kind_of.ensures.looked in
    let told = len_means base c.kind_of.new.frame c.len_of-in-Dict.new.frame registers s own r c.args.handle.now is
    kind.0 (Err fault) c.in_err-len_of-in-Dict.ensures.looked c.in_err-len_of-in-Dict.ensures.waited in
    (told.0, refuses_entries r s c.kind_of.result (ap has_entries c.in-Dict.is) kind.1 fault told.1))

pub returns-in_ok-len_of-in-Dict-clause-later : goal.returns-in_ok-len_of-in-Dict-clause-later
returns-in_ok-len_of-in-Dict-clause-later g c =
    later_both c.args.frame.now.seat.log c.kind_of.new.frame.seat.log c.len_of-in-Dict.new.frame.seat.log
    (later_kind c.args.frame.now c.kind_of.new.frame c.args.handle.now.place c.kind_of.result c.kind_of.ensures.looked)
    (later_len c.kind_of.new.frame c.len_of-in-Dict.new.frame c.args.handle.now.place c.len_of-in-Dict.result
    c.len_of-in-Dict.ensures.looked)

pub returns-in_ok-len_of-in-Dict-clause-shows : goal.returns-in_ok-len_of-in-Dict-clause-shows
returns-in_ok-len_of-in-Dict-clause-shows g c base registers r s own is means =
    let kind = kind_means base c.args.frame.now c.kind_of.new.frame registers s
    (own_at c.kind_of.new.frame c.len_of-in-Dict.new.frame c.len_of-in-Dict.ensures.keeps.heap
    (later_len c.kind_of.new.frame c.len_of-in-Dict.new.frame c.args.handle.now.place c.len_of-in-Dict.result
    c.len_of-in-Dict.ensures.looked) own) r c.args.handle.now is means c.kind_of.result c.kind_of.ensures.looked in
    let told = len_means base c.kind_of.new.frame c.len_of-in-Dict.new.frame registers s own r c.args.handle.now is
    kind.0 (Ok c.in_ok-len_of-in-Dict.field-0) c.in_ok-len_of-in-Dict.ensures.looked
    c.in_ok-len_of-in-Dict.ensures.waited in
    (told.0, shows_dict r s c.kind_of.result c.in-Dict.is kind.1 c.in_ok-len_of-in-Dict.field-0 told.1)

pub returns-in_err-len_of-in-Mailbox-clause-later : goal.returns-in_err-len_of-in-Mailbox-clause-later
returns-in_err-len_of-in-Mailbox-clause-later g c =
    later_both c.args.frame.now.seat.log c.kind_of.new.frame.seat.log c.len_of-in-Mailbox.new.frame.seat.log
    (later_kind c.args.frame.now c.kind_of.new.frame c.args.handle.now.place c.kind_of.result c.kind_of.ensures.looked)
    (later_len c.kind_of.new.frame c.len_of-in-Mailbox.new.frame c.args.handle.now.place c.len_of-in-Mailbox.result
    c.len_of-in-Mailbox.ensures.looked)

pub returns-in_err-len_of-in-Mailbox-clause-shows : goal.returns-in_err-len_of-in-Mailbox-clause-shows
returns-in_err-len_of-in-Mailbox-clause-shows g c =
    let p = err_from_is_err_and c.from_residual-in_err-len_of-in-Mailbox.result
    c.from_residual-in_err-len_of-in-Mailbox.ensures.1 in
    let fault = c.in_err-len_of-in-Mailbox.field-0.0 in
    rw (p.1, p.2) (λ base registers r s own is means.
    let kind = kind_means base c.args.frame.now c.kind_of.new.frame registers s
    (own_at c.kind_of.new.frame c.len_of-in-Mailbox.new.frame c.len_of-in-Mailbox.ensures.keeps.heap
    (later_len c.kind_of.new.frame c.len_of-in-Mailbox.new.frame c.args.handle.now.place c.len_of-in-Mailbox.result
    c.len_of-in-Mailbox.ensures.looked) own) r c.args.handle.now is means c.kind_of.result c.kind_of.ensures.looked in
    let told = len_means base c.kind_of.new.frame c.len_of-in-Mailbox.new.frame registers s own r c.args.handle.now is
    kind.0 (Err fault) c.in_err-len_of-in-Mailbox.ensures.looked c.in_err-len_of-in-Mailbox.ensures.waited in
    (told.0, refuses_entries r s c.kind_of.result (ap has_entries c.in-Mailbox.is) kind.1 fault told.1))

pub returns-in_ok-len_of-in-Mailbox-clause-later : goal.returns-in_ok-len_of-in-Mailbox-clause-later
returns-in_ok-len_of-in-Mailbox-clause-later g c =
    later_both c.args.frame.now.seat.log c.kind_of.new.frame.seat.log c.len_of-in-Mailbox.new.frame.seat.log
    (later_kind c.args.frame.now c.kind_of.new.frame c.args.handle.now.place c.kind_of.result c.kind_of.ensures.looked)
    (later_len c.kind_of.new.frame c.len_of-in-Mailbox.new.frame c.args.handle.now.place c.len_of-in-Mailbox.result
    c.len_of-in-Mailbox.ensures.looked)

pub returns-in_ok-len_of-in-Mailbox-clause-shows : goal.returns-in_ok-len_of-in-Mailbox-clause-shows
returns-in_ok-len_of-in-Mailbox-clause-shows g c base registers r s own is means =
    let kind = kind_means base c.args.frame.now c.kind_of.new.frame registers s
    (own_at c.kind_of.new.frame c.len_of-in-Mailbox.new.frame c.len_of-in-Mailbox.ensures.keeps.heap
    (later_len c.kind_of.new.frame c.len_of-in-Mailbox.new.frame c.args.handle.now.place c.len_of-in-Mailbox.result
    c.len_of-in-Mailbox.ensures.looked) own) r c.args.handle.now is means c.kind_of.result c.kind_of.ensures.looked in
    let told = len_means base c.kind_of.new.frame c.len_of-in-Mailbox.new.frame registers s own r c.args.handle.now is
    kind.0 (Ok c.in_ok-len_of-in-Mailbox.field-0) c.in_ok-len_of-in-Mailbox.ensures.looked
    c.in_ok-len_of-in-Mailbox.ensures.waited in
    (told.0, shows_mailbox r s c.kind_of.result c.in-Mailbox.is kind.1 c.in_ok-len_of-in-Mailbox.field-0 told.1)

pub returns-in-Nothing-clause-later : goal.returns-in-Nothing-clause-later
returns-in-Nothing-clause-later g c = later_kind c.args.frame.now c.kind_of.new.frame c.args.handle.now.place
    c.kind_of.result c.kind_of.ensures.looked

pub returns-in-Nothing-clause-shows : goal.returns-in-Nothing-clause-shows
returns-in-Nothing-clause-shows g c base registers r s own is means =
    let kind = kind_means base c.args.frame.now c.kind_of.new.frame registers s own r c.args.handle.now is means
    c.kind_of.result c.kind_of.ensures.looked in
    (kind.0, shows_none r s c.kind_of.result (none_made c.kind_of.result c.in-Nothing.is) kind.1 faults.WrongKind)

pub returns-in_err-int_of-in-Int-clause-room : goal.returns-in_err-int_of-in-Int-clause-room
returns-in_err-int_of-in-Int-clause-room g c =
    let p = err_from_is_err_and c.from_residual.result
    c.from_residual.ensures.1 in
    rw (p.1, p.2) (int_room c.kind_of.new.frame c.int_of.new.frame c.args.handle.now.place (Err _)
    c.in_err-int_of-in-Int.ensures.looked)

pub returns-in_err-bytes_of-in-Text-clause-room : goal.returns-in_err-bytes_of-in-Text-clause-room
returns-in_err-bytes_of-in-Text-clause-room g c =
    let p = err_from_is_err_and c.from_residual-in_err-bytes_of-in-Text.result
    c.from_residual-in_err-bytes_of-in-Text.ensures.1 in
    rw (p.1, p.2) (text_room c.kind_of.new.frame c.bytes_of.new.frame c.args.handle.now.place (Err _)
    c.in_err-bytes_of-in-Text.ensures.looked)

pub returns-in_err-len_of-in-List-clause-room : goal.returns-in_err-len_of-in-List-clause-room
returns-in_err-len_of-in-List-clause-room g c =
    let p = err_from_is_err_and c.from_residual-in_err-len_of-in-List.result
    c.from_residual-in_err-len_of-in-List.ensures.1 in
    rw (p.1, p.2) (len_room c.kind_of.new.frame c.len_of.new.frame c.args.handle.now.place (Err _)
    c.in_err-len_of-in-List.ensures.looked)

pub returns-in_err-len_of-in-Dict-clause-room : goal.returns-in_err-len_of-in-Dict-clause-room
returns-in_err-len_of-in-Dict-clause-room g c =
    let p = err_from_is_err_and c.from_residual-in_err-len_of-in-Dict.result
    c.from_residual-in_err-len_of-in-Dict.ensures.1 in
    rw (p.1, p.2) (len_room c.kind_of.new.frame c.len_of-in-Dict.new.frame c.args.handle.now.place (Err _)
    c.in_err-len_of-in-Dict.ensures.looked)

pub returns-in_err-len_of-in-Mailbox-clause-room : goal.returns-in_err-len_of-in-Mailbox-clause-room
returns-in_err-len_of-in-Mailbox-clause-room g c =
    let p = err_from_is_err_and c.from_residual-in_err-len_of-in-Mailbox.result
    c.from_residual-in_err-len_of-in-Mailbox.ensures.1 in
    rw (p.1, p.2) (len_room c.kind_of.new.frame c.len_of-in-Mailbox.new.frame c.args.handle.now.place (Err _)
    c.in_err-len_of-in-Mailbox.ensures.looked)
