use Rattle.std.proofs.Common.{◌≡◌, ◌++◌, ℕ, List, codes, refl}
use Rattle.std.proofs.lemmas.Result.{err_from_is_err_and}
use Rattle.brc_text.specs.Headed.{numbers_line}
use Rattle.brc_text.proofs.PutLaws.{starts, goes_on, fails, rest_puts}
use Rattle.brc_graph.specs.Pictures.{ring_head, ring_text}
use Rattle.brc_graph.proofs.picture_writing.put_ring.Goals as goal

text_is : (first : ℕ) (cells : List ℕ)
    → ring_text first cells ≡ ring_head first ++ (numbers_line (codes "   ") cells ++ codes "  }\n")
unfolding ring_text
text_is first cells = refl

pub returns-in_err-put_ring_head : goal.returns-in_err-put_ring_head
returns-in_err-put_ring_head g c =
    let p = err_from_is_err_and c.from_residual.result c.from_residual.ensures.1 in
    let behind = numbers_line (codes "   ") c.args.cells.now ++ codes "  }\n" in
    let whole = starts (g.W.Write.contents c.args.writer.now) (ring_text c.args.first c.args.cells.now) in
    rw (p.1, p.2) (
      c.in_err-put_ring_head.ensures.0,
      c.in_err-put_ring_head.ensures.1 ++ behind,
      fails (ring_head c.args.first) behind whole (text_is c.args.first c.args.cells.now)
          c.in_err-put_ring_head.ensures.2,
    )

pub returns-in_err-put_numbers_line : goal.returns-in_err-put_numbers_line
returns-in_err-put_numbers_line g c =
    let p = err_from_is_err_and c.from_residual-in_err-put_numbers_line.result
    c.from_residual-in_err-put_numbers_line.ensures.1 in
    let numbers = numbers_line (codes "   ") c.args.cells.now in
    let whole = starts (g.W.Write.contents c.args.writer.now) (ring_text c.args.first c.args.cells.now) in
    let below = goes_on _ (ring_head c.args.first) (numbers ++ codes "  }\n") whole
    (text_is c.args.first c.args.cells.now) c.in_ok-put_ring_head.ensures in
    rw (p.1, p.2) (
      c.in_err-put_numbers_line.ensures.0,
      c.in_err-put_numbers_line.ensures.1 ++ codes "  }\n",
      fails numbers (codes "  }\n") below refl c.in_err-put_numbers_line.ensures.2,
    )

pub returns : goal.returns
returns g c =
    let numbers = numbers_line (codes "   ") c.args.cells.now in
    let whole = starts (g.W.Write.contents c.args.writer.now) (ring_text c.args.first c.args.cells.now) in
    let below = goes_on _ (ring_head c.args.first) (numbers ++ codes "  }\n") whole
    (text_is c.args.first c.args.cells.now) c.in_ok-put_ring_head.ensures in
    rest_puts _ c.put_bytes.result (goes_on _ numbers (codes "  }\n") below refl c.in_ok-put_numbers_line.ensures)
    c.put_bytes.ensures
