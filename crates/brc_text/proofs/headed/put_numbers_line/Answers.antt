use Rattle.std.proofs.Common.{◌≡◌, ◌<◌, ◌+◌, ◌++◌, ℕ, suc, List, [], ◌∷◌, length, decimal, get_or, drop, drop-cons}
use Rattle.std.proofs.Common.{add-one, ap, sym, subst, ◌∙◌, append_assoc}
use Rattle.std.proofs.lemmas.List.{drop_all}
use Rattle.std.proofs.lemmas.Result.{err_from_is_err_and}
use Rattle.brc_text.specs.Puts.{PutsText}
use Rattle.brc_text.specs.Headed.{spaced_numbers}
use Rattle.brc_text.proofs.PutLaws.{keeps_on, rest_puts}
use Rattle.brc_text.proofs.headed.put_numbers_line.Goals as goal

-- what is left of the line is the next number, and what is left behind it
next_number : (numbers : List ℕ) (i : ℕ) → i < length numbers
    → spaced_numbers (drop i numbers) ++ 10 ∷ []
    ≡ (32 ∷ decimal (get_or numbers i 0)) ++ (spaced_numbers (drop (i + 1) numbers) ++ 10 ∷ [])
next_number numbers i within =
    rw (add-one)
    (ap (λ (l : List ℕ). spaced_numbers l ++ 10 ∷ []) (drop-cons numbers i 0 within)
    ∙ append_assoc (32 ∷ decimal (get_or numbers i 0)) (spaced_numbers (drop (suc i) numbers)) (10 ∷ []))

pub returns-in_err-add_number : goal.returns-in_err-add_number
returns-in_err-add_number g c =
    let p = err_from_is_err_and c.from_residual.result c.from_residual.ensures.1 in
    let split = next_number c.args.numbers.now c.loop-number.number-index c.loop-number-test.true in
    let behind = spaced_numbers (drop (c.loop-number.number-index + 1) c.args.numbers.now) ++ 10 ∷ [] in
    rw (p.1, p.2) (
      c.in_err-add_number.ensures.puts.0,
      c.in_err-add_number.ensures.puts.1 ++ behind,
      keeps_on c.loop-number.text.items _ behind c.loop-number.invariant.puts split c.in_err-add_number.ensures.puts.2,
    )

pub loop-number-preserved : goal.loop-number-preserved
loop-number-preserved g c =
    let split = next_number c.args.numbers.now c.loop-number.number-index c.loop-number-test.true in
    let behind = spaced_numbers (drop (c.loop-number.number-index + 1) c.args.numbers.now) ++ 10 ∷ [] in
    record {
      puts = keeps_on c.loop-number.text.items _ behind c.loop-number.invariant.puts split
          c.in_ok-add_number.ensures.puts;
      room = c.in_ok-add_number.ensures.room;
    }

pub returns : goal.returns
returns g c =
    let none_left = drop_all c.loop-number.number-index c.args.numbers.now c.loop-number-test.false in
    let behind = ap (λ (l : List ℕ). c.loop-number.text.items ++ (spaced_numbers l ++ 10 ∷ [])) none_left in
    rest_puts _ c.put_bytes.result c.loop-number.invariant.puts
    (subst (PutsText (g.W.Write.contents c.loop-number.writer) (g.W.Write.contents c.put_bytes.new.writer)
    c.put_bytes.result)
    (c.as_slice.ensures.value ∙ c.push.ensures.items ∙ sym behind) c.put_bytes.ensures)
