-- The text of a report is read as its remains and its cycles.
use Rattle.std.proofs.Common.{◌≡◌, ◌∙◌, ℕ, zero, suc, ◌+◌, ◌<◌, ◌≤◌, ◌^◌, true, false, List, [], ◌∷◌, ◌++◌, length}
use Rattle.std.proofs.Common.{map, Option, Some, Ok, refl, sym, ap, decimal, codes, append_assoc}
use Rattle.std.proofs.Common.{append-nil, arith}
use Rattle.std.specs.List.{AllByRecursion}
use Rattle.std.specs.Str.Parse.{AllDigits}
use Rattle.std.proofs.lemmas.Bool.{ne_eqb, le-leb}
use Rattle.std.proofs.lemmas.Str.Parse.{digit_from_value}
use Rattle.std.proofs.lemmas.Fmt.{digits_decimal}
use Rattle.brc_words.specs.declared.kind.Kind.{Kind}
use Rattle.brc_words.specs.declared.kind.Kind.TheVariants as kinds
use Rattle.brc_words.specs.Kinds.{is_mortal}
use Rattle.brc_words.specs.declared.limits.TheConstants.{FIRST_MORTAL, MOST_CELLS, MOST_INPUT}
use Rattle.brc_text.specs.declared.token.Token.TheVariants as tokens
use Rattle.brc_text.specs.Numbers.{number_at}
use Rattle.brc_text.specs.Keywords.{keyword}
use Rattle.brc_text.specs.Lines.{lacks, pieces}
use Rattle.brc_text.specs.Headed.{spaced_numbers}
use Rattle.brc_text.proofs.NumberLaws.{numerals, number_again}
use Rattle.brc_text.proofs.LineLaws.{lacks-append, cut_until, cut_whole, token_lacks_space, token_lacks_feed}
use Rattle.brc_text.proofs.LineLaws.{pieces_line}
use Rattle.brc_report.specs.declared.content.Remain.{Remain}
use Rattle.brc_report.specs.declared.report.Ledger.{Ledger}
use Rattle.brc_report.specs.Texts.{kind_word, remains_text, cycles_text, report_text}
use Rattle.brc_graph.specs.declared.cells.TheConstants.{HIGHEST_CELL}
use Rattle.brc_graph.specs.declared.drawn.Drawn.{Drawn}
use Rattle.brc_graph.specs.declared.drawn.Drawn.TheVariants as drawn
use Rattle.brc_graph.specs.declared.first_word.FirstWord.{FirstWord}
use Rattle.brc_graph.specs.declared.first_word.FirstWord.TheVariants as words
use Rattle.brc_graph.specs.declared.line.TheConstants.{KINDS}
use Rattle.brc_graph.specs.declared.part.TextPart.{TextPart}
use Rattle.brc_graph.specs.declared.part.TextPart.TheVariants as parts
use Rattle.brc_graph.specs.FirstWords.{first_word, first_word_at}
use Rattle.brc_graph.specs.Operands.{within, word_among, ahead}
use Rattle.brc_graph.specs.Cells.{cells_from}
use Rattle.brc_graph.specs.Names.{is_printed}
use Rattle.brc_graph.specs.Parts.{after, may_be_printed, is_whole}
use Rattle.brc_graph.specs.Lines.{remain_at, ledger_at, drawn_at, worded_at, step_at}
use Rattle.brc_graph.specs.Reading.{onward, walk, graph_at}
use Rattle.brc_graph.specs.Reports.{IsOfHeap, AreOfHeap, IsHeapReport, IsPrinted, printed_text, printed_drawn}
use Rattle.brc_graph.specs.Reports.{remain_drawn, cycle_drawn, report_drawn}
use Rattle.brc_graph.proofs.WalkLaws.{short_text}

-- ---- bytes that aren't in a number

digits_lack_colon : (ds : List ℕ) → AllDigits 10 ds → lacks 58 ds ≡ true
digits_lack_colon [] all = refl
digits_lack_colon (d ∷ ds) all =
    let range = digit_from_value d all.0 in
    rw (ne_eqb d 58 (λ e. omega (arith, range.1, e))) (digits_lack_colon ds all.1)

colon_lacks : (n : ℕ) → n < 2 ^ 64 → lacks 58 (decimal n) ≡ true
colon_lacks n h = digits_lack_colon (decimal n) (digits_decimal numerals n h)

space_lacks : (n : ℕ) → n < 2 ^ 64 → lacks 32 (decimal n) ≡ true
space_lacks n h = token_lacks_space (tokens.Number n) h

feed_lacks : (n : ℕ) → n < 2 ^ 64 → lacks 10 (decimal n) ≡ true
feed_lacks n h = token_lacks_feed (tokens.Number n) h

numbers_lack_feed : (cells : List ℕ) → AllByRecursion (λ cell. cell < MOST_CELLS) cells
    → lacks 10 (spaced_numbers cells) ≡ true
numbers_lack_feed [] all = refl
numbers_lack_feed (cell ∷ cells) all =
    lacks-append 10 (32 ∷ decimal cell) (spaced_numbers cells) (feed_lacks cell (omega (arith, all.0)))
    (numbers_lack_feed cells all.1)

-- ---- operands

within_again : (least most n : ℕ) → n < 2 ^ 64 → least ≤ n → n ≤ most → within least most (decimal n) ≡ Some n
unfolding within
within_again least most n h low high = rw (number_again n h, le-leb least n low, le-leb n most high) refl

ahead_again : {X : Type 0} (read : List ℕ → Option X) (word rest : List ℕ) (x : X) → lacks 32 word ≡ true
    → read word ≡ Some x → ahead read (word ++ (32 ∷ rest)) ≡ Some (x, rest)
unfolding ahead
ahead_again read word rest x lack reads = rw (cut_until 32 word rest lack, reads) refl

kind_again : (kind : Kind) → is_mortal kind ≡ true
    → word_among KINDS (keyword (kind_word kind)) ≡ Some (kind_word kind)
unfolding word_among
kind_again kinds.Int h = refl
kind_again kinds.Text h = refl
kind_again kinds.List h = refl
kind_again kinds.Dict h = refl
kind_again kinds.Mailbox h = refl
kind_again kinds.Nothing h = absurd cc
kind_again kinds.False h = absurd cc
kind_again kinds.True h = absurd cc

-- what stands behind `remain`
abbrev remain_rest : Remain → List ℕ
remain_rest remain =
    decimal remain.cell ++ (32 ∷ (keyword (kind_word remain.kind) ++ (32 ∷ (decimal remain.held_by ++ []))))

remain_again : (remain : Remain) → IsOfHeap remain
    → remain_at (remain_rest remain) ≡ Some (remain.cell, kind_word remain.kind, remain.held_by)
unfolding remain_at
remain_again remain is =
    let kind = keyword (kind_word remain.kind) in
    let cell : remain.cell < 2 ^ 64 = omega (arith, is.cell) in
    let holder : remain.held_by < 2 ^ 64 = omega (arith, is.holder) in
    rw (
      ahead_again (within FIRST_MORTAL HIGHEST_CELL) (decimal remain.cell)
          (kind ++ (32 ∷ (decimal remain.held_by ++ []))) remain.cell (space_lacks remain.cell cell)
          (within_again FIRST_MORTAL HIGHEST_CELL remain.cell cell is.mortal (omega (arith, is.cell))),
      ahead_again (word_among KINDS) kind (decimal remain.held_by ++ []) (kind_word remain.kind)
          (token_lacks_space (tokens.Word (kind_word remain.kind)) tt) (kind_again remain.kind is.kind),
      append-nil (decimal remain.held_by),
      within_again 0 HIGHEST_CELL remain.held_by holder (omega arith) (omega (arith, is.holder)),
    ) refl

-- what stands behind `ledger`
abbrev ledger_rest : Ledger → ℕ → List ℕ
ledger_rest ledger live = decimal ledger.allocs ++ (32 ∷ (decimal ledger.frees ++ (32 ∷ (decimal live ++ []))))

ledger_again : (ledger : Ledger) (live : ℕ) → ledger.allocs < 2 ^ 64 → ledger.frees < 2 ^ 64 → live < 2 ^ 64
    → ledger_at (ledger_rest ledger live) ≡ Some live
unfolding ledger_at
ledger_again ledger live allocs frees lives =
    rw (
      ahead_again number_at (decimal ledger.allocs) (decimal ledger.frees ++ (32 ∷ (decimal live ++ []))) ledger.allocs
          (space_lacks ledger.allocs allocs) (number_again ledger.allocs allocs),
      ahead_again number_at (decimal ledger.frees) (decimal live ++ []) ledger.frees (space_lacks ledger.frees frees)
          (number_again ledger.frees frees),
      append-nil (decimal live),
      number_again live lives,
    ) refl

-- the cells of a cycle, behind those before
cells_again : (most : ℕ) (before : List ℕ) (cell : ℕ) (cells : List ℕ) → length (cell ∷ cells) ≤ most
    → AllByRecursion (λ c. c < MOST_CELLS) (cell ∷ cells)
    → cells_from most before (decimal cell ++ spaced_numbers cells) ≡ Some (before ++ (cell ∷ cells))
unfolding cells_from
cells_again zero before cell cells few all = absurd (omega (arith, few))
cells_again (suc most) before cell [] few all =
    let fits : cell < 2 ^ 64 = omega (arith, all.0) in
    rw (
      append-nil (decimal cell),
      cut_whole 32 (decimal cell) (space_lacks cell fits),
      within_again 0 HIGHEST_CELL cell fits (omega arith) (omega (arith, all.0)),
    ) refl
cells_again (suc most) before cell (next ∷ cells) few all =
    let fits : cell < 2 ^ 64 = omega (arith, all.0) in
    rw (
      cut_until 32 (decimal cell) (decimal next ++ spaced_numbers cells) (space_lacks cell fits),
      within_again 0 HIGHEST_CELL cell fits (omega arith) (omega (arith, all.0)),
      cells_again most (before ++ (cell ∷ [])) next cells (omega (arith, few)) all.1,
    ) (ap (λ (l : List ℕ). Some l) (append_assoc before (cell ∷ []) (next ∷ cells)))

-- ---- lines

ledger_first : (ledger : Ledger) (live : ℕ) (remains : List Remain) (cycles : List (List ℕ))
    → report_text ledger live remains cycles
    ≡ (codes "ledger" ++ (32 ∷ ledger_rest ledger live)) ++ (10 ∷ (remains_text remains ++ cycles_text cycles))
unfolding report_text
ledger_first ledger live remains cycles =
    append_assoc (codes "ledger" ++ (32 ∷ ledger_rest ledger live)) (10 ∷ []) (remains_text remains ++ cycles_text cycles)

module _ {A : Type 0} where
  worded_again : (part next : TextPart) (word : FirstWord) (rest : List ℕ) (shown : Drawn A)
      → lacks 32 (first_word word) ≡ true → first_word_at (first_word word) ≡ Some word
      → after part word ≡ Some next → drawn_at word rest ≡ Some shown
      → worded_at part (first_word word ++ (32 ∷ rest)) ≡ Some (next, shown)
  unfolding worded_at
  worded_again part next word rest shown lack reads stands shows =
      rw (cut_until 32 (first_word word) rest lack, reads, stands, shows) refl

  remain_step : (remain : Remain) → IsOfHeap remain
      → step_at {A = A} parts.Remains (codes "remain" ++ (32 ∷ remain_rest remain))
      ≡ Some (parts.Remains, remain_drawn remain)
  unfolding step_at first_word_at
  remain_step remain is =
      worded_again parts.Remains parts.Remains words.Remain (remain_rest remain) (remain_drawn remain) refl refl refl
      (rw (remain_again remain is) refl)

  cycle_step : (part : TextPart) (cell : ℕ) (cells : List ℕ) → may_be_printed part ≡ false
      → after part words.Cycle ≡ Some parts.Cycles → AreOfHeap (cell ∷ cells)
      → step_at {A = A} part (codes "cycle" ++ (32 ∷ (decimal cell ++ spaced_numbers cells)))
      ≡ Some (parts.Cycles, cycle_drawn (cell ∷ cells))
  unfolding step_at first_word_at
  cycle_step part cell cells bare stands is =
      rw bare (worded_again part parts.Cycles words.Cycle (decimal cell ++ spaced_numbers cells)
      (cycle_drawn (cell ∷ cells)) refl refl stands
      (rw (cells_again MOST_CELLS [] cell cells is.few is.each) refl))

  ledger_step : (part : TextPart) (ledger : Ledger) (live : ℕ) → may_be_printed part ≡ true
      → after part words.Ledger ≡ Some parts.Remains
      → ledger.allocs < 2 ^ 64 → ledger.frees < 2 ^ 64 → live < 2 ^ 64
      → step_at {A = A} part (codes "ledger" ++ (32 ∷ ledger_rest ledger live))
      ≡ Some (parts.Remains, drawn.Nothing)
  unfolding step_at first_word_at is_printed
  ledger_step part ledger live may stands allocs frees lives =
      let no_colon : lacks 58 (codes "ledger" ++ (32 ∷ ledger_rest ledger live)) ≡ true =
      lacks-append 58 (decimal ledger.allocs) _ (colon_lacks ledger.allocs allocs)
      (lacks-append 58 (decimal ledger.frees) _ (colon_lacks ledger.frees frees)
      (lacks-append 58 (decimal live) [] (colon_lacks live lives) refl)) in
      rw (may, cut_whole 58 (codes "ledger" ++ (32 ∷ ledger_rest ledger live)) no_colon) (
      worded_again part parts.Remains words.Ledger (ledger_rest ledger live) drawn.Nothing refl refl stands
      (rw (ledger_again ledger live allocs frees lives) refl)
      )

  printed_step : (part : TextPart) (line : List ℕ) → may_be_printed part ≡ true → is_printed line ≡ true
      → step_at {A = A} part line ≡ Some (parts.Printed, drawn.Nothing)
  unfolding step_at
  printed_step part line may named = rw (may, named) refl

  -- ---- one line after another

  line_again : (part next : TextPart) (before : List (Drawn A)) (shown : Drawn A) (number : ℕ) (line more : List ℕ)
      → lacks 10 line ≡ true → step_at part line ≡ Some (next, shown)
      → walk part before number (pieces (line ++ (10 ∷ more))) ≡ walk next (before ++ (shown ∷ [])) (number + 1)
      (pieces more)
  unfolding walk
  line_again part next before shown number line more lack steps =
      ap (walk part before number) (pieces_line line more lack)
      ∙ ap (onward number (λ step. walk step.0 (before ++ (step.1 ∷ [])) (number + 1) (pieces more))) steps

  no_more : (part : TextPart) (before : List (Drawn A)) (number : ℕ) → is_whole part ≡ true
      → walk part before number (pieces []) ≡ Ok before
  unfolding walk pieces
  no_more part before number whole = rw whole refl

  cycles_again : (part : TextPart) (before : List (Drawn A)) (number : ℕ) (cycles : List (List ℕ))
      → may_be_printed part ≡ false
      → after part words.Cycle ≡ Some parts.Cycles → is_whole part ≡ true → AllByRecursion AreOfHeap cycles
      → walk part before number (pieces (cycles_text cycles)) ≡ Ok (before ++ map cycle_drawn cycles)
  cycles_again part before number [] bare stands whole all =
      no_more part before number whole ∙ ap (λ (l : List (Drawn A)). Ok l) (sym (append-nil before))
  cycles_again part before number ([] ∷ cycles) bare stands whole all = absurd (omega (arith, all.0.some))
  cycles_again part before number ((cell ∷ cells) ∷ cycles) bare stands whole all =
      let shown : Drawn A = cycle_drawn (cell ∷ cells) in
      let numbers = decimal cell ++ spaced_numbers cells in
      let split : cycles_text ((cell ∷ cells) ∷ cycles) ≡ (codes "cycle" ++ (32 ∷ numbers)) ++ (10 ∷ cycles_text cycles) =
      ap (λ (l : List ℕ). codes "cycle" ++ (32 ∷ l)) (append_assoc numbers (10 ∷ []) (cycles_text cycles)) in
      ap (λ (t : List ℕ). walk part before number (pieces t)) split
      ∙ line_again part parts.Cycles before shown number (codes "cycle" ++ (32 ∷ numbers)) (cycles_text cycles)
      (lacks-append 10 (decimal cell) (spaced_numbers cells) (feed_lacks cell (omega (arith, all.0.each.0)))
      (numbers_lack_feed cells all.0.each.1))
      (cycle_step part cell cells bare stands all.0)
      ∙ cycles_again parts.Cycles (before ++ (shown ∷ [])) (number + 1) cycles refl refl refl all.1
      ∙ ap (λ (l : List (Drawn A)). Ok l) (append_assoc before (shown ∷ []) (map cycle_drawn cycles))

  remains_again : (before : List (Drawn A)) (number : ℕ) (remains : List Remain) (cycles : List (List ℕ))
      → AllByRecursion IsOfHeap remains → AllByRecursion AreOfHeap cycles
      → walk parts.Remains before number (pieces (remains_text remains ++ cycles_text cycles))
      ≡ Ok (before ++ (map remain_drawn remains ++ map cycle_drawn cycles))
  remains_again before number [] cycles all others = cycles_again parts.Remains before number cycles refl refl refl others
  remains_again before number (remain ∷ remains) cycles all others =
      let shown : Drawn A = remain_drawn remain in
      let line = codes "remain" ++ (32 ∷ remain_rest remain) in
      let more = remains_text remains ++ cycles_text cycles in
      let split : remains_text (remain ∷ remains) ++ cycles_text cycles ≡ line ++ (10 ∷ more) =
      append_assoc (line ++ (10 ∷ [])) (remains_text remains) (cycles_text cycles) ∙ append_assoc line (10 ∷ []) more in
      ap (λ (t : List ℕ). walk parts.Remains before number (pieces t)) split
      ∙ line_again parts.Remains parts.Remains before shown number line more
      (lacks-append 10 (decimal remain.cell) _ (feed_lacks remain.cell (omega (arith, all.0.cell)))
      (lacks-append 10 (keyword (kind_word remain.kind)) _ (token_lacks_feed (tokens.Word (kind_word remain.kind)) tt)
      (lacks-append 10 (decimal remain.held_by) [] (feed_lacks remain.held_by (omega (arith, all.0.holder))) refl)))
      (remain_step remain all.0)
      ∙ remains_again (before ++ (shown ∷ [])) (number + 1) remains cycles all.1 others
      ∙ ap (λ (l : List (Drawn A)). Ok l)
      (append_assoc before (shown ∷ []) (map remain_drawn remains ++ map cycle_drawn cycles))

  printed_again : (part : TextPart) (before : List (Drawn A)) (number : ℕ) (printed : List (List ℕ)) (ledger : Ledger)
      (live : ℕ) (remains : List Remain) (cycles : List (List ℕ))
      → may_be_printed part ≡ true → after part words.Ledger ≡ Some parts.Remains
      → AllByRecursion IsPrinted printed → IsHeapReport ledger live remains cycles
      → walk part before number (pieces (printed_text printed ++ report_text ledger live remains cycles))
      ≡ Ok (before ++ (printed_drawn printed ++ report_drawn remains cycles))
  printed_again part before number [] ledger live remains cycles may stands all is =
      let line = codes "ledger" ++ (32 ∷ ledger_rest ledger live) in
      let more = remains_text remains ++ cycles_text cycles in
      ap (λ (t : List ℕ). walk {A = A} part before number (pieces t)) (ledger_first ledger live remains cycles)
      ∙ line_again part parts.Remains before drawn.Nothing number line more
      (lacks-append 10 (decimal ledger.allocs) _ (feed_lacks ledger.allocs is.allocs)
      (lacks-append 10 (decimal ledger.frees) _ (feed_lacks ledger.frees is.frees)
      (lacks-append 10 (decimal live) [] (feed_lacks live is.lives) refl)))
      (ledger_step part ledger live may stands is.allocs is.frees is.lives)
      ∙ remains_again (before ++ (drawn.Nothing ∷ [])) (number + 1) remains cycles is.remain is.cycle
      ∙ ap (λ (l : List (Drawn A)). Ok l)
      (append_assoc before (drawn.Nothing ∷ []) (map remain_drawn remains ++ map cycle_drawn cycles))
  printed_again part before number (line ∷ printed) ledger live remains cycles may stands all is =
      let report = report_text ledger live remains cycles in
      let more = printed_text printed ++ report in
      let split : printed_text (line ∷ printed) ++ report ≡ line ++ (10 ∷ more) =
      append_assoc (line ++ (10 ∷ [])) (printed_text printed) report ∙ append_assoc line (10 ∷ []) more in
      ap (λ (t : List ℕ). walk {A = A} part before number (pieces t)) split
      ∙ line_again part parts.Printed before drawn.Nothing number line more all.0.no_feed
      (printed_step part line may all.0.named)
      ∙ printed_again parts.Printed (before ++ (drawn.Nothing ∷ [])) (number + 1) printed ledger live remains cycles refl
      refl all.1 is
      ∙ ap (λ (l : List (Drawn A)). Ok l)
      (append_assoc before (drawn.Nothing ∷ []) (printed_drawn printed ++ report_drawn remains cycles))

  pub report_again : (printed : List (List ℕ)) (ledger : Ledger) (live : ℕ) (remains : List Remain)
      (cycles : List (List ℕ))
      → AllByRecursion IsPrinted printed → IsHeapReport ledger live remains cycles
      → length (printed_text printed ++ report_text ledger live remains cycles) ≤ MOST_INPUT
      → graph_at {A = A} (printed_text printed ++ report_text ledger live remains cycles)
      ≡ Ok (printed_drawn printed ++ report_drawn remains cycles)
  report_again printed ledger live remains cycles all is short =
      short_text (printed_text printed ++ report_text ledger live remains cycles) short
      ∙ printed_again parts.Start [] 1 printed ledger live remains cycles refl refl all is
