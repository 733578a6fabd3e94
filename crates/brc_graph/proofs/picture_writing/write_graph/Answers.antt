use Rattle.std.proofs.Common.{◌≡◌, ◌++◌, ℕ, List, codes, refl}
use Rattle.std.proofs.lemmas.Result.{err_from_is_err_and}
use Rattle.brc_text.proofs.PutLaws.{starts, goes_on, fails, rest_puts}
use Rattle.brc_graph.specs.declared.drawn.Drawn.{Drawn}
use Rattle.brc_graph.specs.Pictures.{drawn_texts, graph_text}
use Rattle.brc_graph.proofs.picture_writing.write_graph.Goals as goal

abbrev head : List ℕ
head = codes "digraph brc {\n  265 [label=\"265 globals\"]\n"

text_is : {A : Type 0} (all : List (Drawn A)) → graph_text all ≡ head ++ (drawn_texts all ++ codes "}\n")
unfolding graph_text
text_is all = refl

pub returns-in_err-put_bytes : goal.returns-in_err-put_bytes
returns-in_err-put_bytes g c =
    let p = err_from_is_err_and c.from_residual.result c.from_residual.ensures.1 in
    let all = c.args.graph.now.drawn.items in
    let behind = drawn_texts all ++ codes "}\n" in
    let whole = starts (g.W.Write.contents c.args.writer.now) (graph_text all) in
    rw (p.1, p.2) (
      c.in_err-put_bytes.ensures.0,
      c.in_err-put_bytes.ensures.1 ++ behind,
      fails head behind whole (text_is all) c.in_err-put_bytes.ensures.2,
    )

pub returns-in_err-put_graph_lines : goal.returns-in_err-put_graph_lines
returns-in_err-put_graph_lines g c =
    let p = err_from_is_err_and c.from_residual-in_err-put_graph_lines.result c.from_residual-in_err-put_graph_lines.ensures.1 in
    let all = c.args.graph.now.drawn.items in
    let whole = starts (g.W.Write.contents c.args.writer.now) (graph_text all) in
    let below = goes_on _ head (drawn_texts all ++ codes "}\n") whole (text_is all) c.in_ok-put_bytes.ensures in
    rw (p.1, p.2) (
      c.in_err-put_graph_lines.ensures.0,
      c.in_err-put_graph_lines.ensures.1 ++ codes "}\n",
      fails (drawn_texts all) (codes "}\n") below refl c.in_err-put_graph_lines.ensures.2,
    )

pub returns : goal.returns
returns g c =
    let all = c.args.graph.now.drawn.items in
    let whole = starts (g.W.Write.contents c.args.writer.now) (graph_text all) in
    let below = goes_on _ head (drawn_texts all ++ codes "}\n") whole (text_is all) c.in_ok-put_bytes.ensures in
    rest_puts _ c.put_bytes-2.result (goes_on _ (drawn_texts all) (codes "}\n") below refl c.in_ok-put_graph_lines.ensures)
    c.put_bytes-2.ensures
