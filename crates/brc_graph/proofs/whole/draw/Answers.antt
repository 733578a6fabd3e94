use Rattle.std.proofs.Common.{◌≡◌, ℕ, List, Ok, subst, inr}
use Rattle.std.specs.declared.alloc.Global.{Global}
use Rattle.brc_graph.specs.Reading.{graph_at, RefusesGraph}
use Rattle.brc_graph.specs.Draws.{IsGraphOf}
use Rattle.brc_graph.proofs.DrawLaws.{carried, no_graph, not_read, not_written}
use Rattle.brc_graph.proofs.whole.draw.Goals as goal

pub returns-in-Err-read_graph : goal.returns-in-Err-read_graph
returns-in-Err-read_graph g c =
    no_graph (g.R.Read.remaining c.args.reader) (g.W.Write.contents c.args.writer.now) c.in-Ok.input.items
    c.in-Err-read_graph.undrawn c.in-Ok.ensures.bytes
    (subst (λ (b : List ℕ). RefusesGraph c.in-Err-read_graph.undrawn (graph_at {A = Global} b)) c.as_slice.ensures.value
    c.in-Err-read_graph.ensures)

pub returns-in-Err-box_cycles : goal.returns-in-Err-box_cycles
returns-in-Err-box_cycles g c =
    rw c.undrawn_of-in-Err-box_cycles.ensures
    (not_read (g.R.Read.remaining c.args.reader) (g.W.Write.contents c.args.writer.now) c.in-Err-box_cycles.fault
    (inr c.in-Err-box_cycles.ensures.lacks))

pub returns-in-Ok-write_graph : goal.returns-in-Ok-write_graph
returns-in-Ok-write_graph g c =
    let all = c.in-Ok-read_graph.graph.drawn.items in
    record {
      boxed = c.in-Ok-box_cycles.boxed.drawn.items;
      graph = record {
        graph = all;
        read = carried (g.R.Read.remaining c.args.reader) c.in-Ok.input.items all c.in-Ok.ensures.bytes
            (subst (λ (b : List ℕ). graph_at {A = Global} b ≡ Ok all) c.as_slice.ensures.value
            c.in-Ok-read_graph.ensures);
        boxes = c.in-Ok-box_cycles.ensures.boxes;
      };
      written = c.in-Ok-write_graph.ensures;
    }

pub returns : goal.returns
returns g c =
    let all = c.in-Ok-read_graph.graph.drawn.items in
    let boxed = c.in-Ok-box_cycles.boxed.drawn.items in
    let graph : IsGraphOf (g.R.Read.remaining c.args.reader) boxed = record {
      graph = all;
      read = carried (g.R.Read.remaining c.args.reader) c.in-Ok.input.items all c.in-Ok.ensures.bytes
          (subst (λ (b : List ℕ). graph_at {A = Global} b ≡ Ok all) c.as_slice.ensures.value
          c.in-Ok-read_graph.ensures);
      boxes = c.in-Ok-box_cycles.ensures.boxes;
    } in
    rw c.undrawn_of-in-Err-write_graph.ensures (
    not_written (g.R.Read.remaining c.args.reader) (g.W.Write.contents c.args.writer.now)
    (g.W.Write.contents c.write_graph.new.writer) c.in-Err-write_graph.ensures.1 boxed c.in-Err-write_graph.fault graph
    c.in-Err-write_graph.ensures.0 c.in-Err-write_graph.ensures.2
    )
