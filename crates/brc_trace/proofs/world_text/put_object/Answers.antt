use Rattle.std.proofs.Common.{◌≡◌, ◌∙◌, ℕ, true, false, [], ◌++◌, refl, subst, sym}
use Rattle.std.proofs.lemmas.Result.{err_from_is_err_and}
use Rattle.std.proofs.KnownBytes.{Appends-nil}
use Rattle.std.specs.Io.KnownBytes.{Appends}
use Rattle.law.specs.world.Heap.{Heap, cell_at, entries_at}
use Rattle.law.specs.world.Holding.{lives_at}
use Rattle.brc_text.proofs.PutLaws.{starts, goes_on, fails}
use Rattle.brc_trace.specs.Worlds.{object_line, entries_text, object_text}
use Rattle.brc_trace.proofs.WorldLaws.{last_puts}
use Rattle.brc_trace.proofs.world_text.put_object.Goals as goal

no_object : (h : Heap) (c : ℕ) → lives_at h c ≡ false → [] ≡ object_text h c
unfolding object_text
no_object h c none = rw none refl

object_is : (h : Heap) (c : ℕ) → lives_at h c ≡ true → object_text h c ≡ object_line c (cell_at h c) ++ entries_text c
    (entries_at h c)
unfolding object_text
object_is h c live = rw live refl

pub returns-then-not-is_live : goal.returns-then-not-is_live
returns-then-not-is_live g c =
    let contents = g.W.Write.contents c.args.writer.now in
    subst (Appends contents contents)
    (no_object c.args.world.now c.args.cell (sym c.is_live.ensures ∙ c.if-not-is_live.true)) (Appends-nil contents)

pub returns-in_err-put_object_line : goal.returns-in_err-put_object_line
returns-in_err-put_object_line g c =
    let p = err_from_is_err_and c.from_residual.result c.from_residual.ensures.1 in
    let h = c.args.world.now in
    let live : lives_at h c.args.cell ≡ true = sym c.is_live.ensures ∙ c.if-not-is_live.false in
    let behind = entries_text c.args.cell (entries_at h c.args.cell) in
    let short = fails (object_line c.args.cell (cell_at h c.args.cell)) behind
    (starts (g.W.Write.contents c.args.writer.now) (object_text h c.args.cell)) (object_is h c.args.cell live)
    c.in_err-put_object_line.ensures.2 in
    rw (p.1, p.2) (c.in_err-put_object_line.ensures.0, c.in_err-put_object_line.ensures.1 ++ behind, short)

pub returns : goal.returns
returns g c =
    let h = c.args.world.now in
    let live : lives_at h c.args.cell ≡ true = sym c.is_live.ensures ∙ c.if-not-is_live.false in
    let after_line = goes_on _ (object_line c.args.cell (cell_at h c.args.cell))
    (entries_text c.args.cell (entries_at h c.args.cell))
    (starts (g.W.Write.contents c.args.writer.now) (object_text h c.args.cell)) (object_is h c.args.cell live)
    c.in_ok-put_object_line.ensures in
    last_puts (g.W.Write.contents c.put_entries.new.writer) c.put_entries.result
    (entries_text c.args.cell (entries_at h c.args.cell)) after_line refl c.put_entries.ensures
