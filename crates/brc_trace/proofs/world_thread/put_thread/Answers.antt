use Rattle.std.proofs.Common.{◌≡◌, ◌∙◌, ℕ, ◌++◌, [], List, Bool, true, false, Some, refl, sym, cond}
use Rattle.std.proofs.lemmas.Result.{err_from_is_err_and}
use Rattle.brc_core.specs.declared.readers.Status.{Status}
use Rattle.brc_core.specs.Readings.{only_if}
use Rattle.law.specs.world.Heap.{Heap, is_registered}
use Rattle.brc_text.proofs.PutLaws.{starts, goes_on, fails, ends}
use Rattle.brc_trace.specs.Worlds.{is_over, status_at, thread_line, thread_text, holdings_text}
use Rattle.brc_trace.proofs.WorldLaws.{last_puts}
use Rattle.brc_trace.proofs.world_thread.put_thread.Goals as goal

some_read : {A : Type 0} (test : Bool) (x y : A) → test ≡ true → Some y ≡ only_if test x → y ≡ x
some_read true x y holds is = cc
some_read false x y holds is = absurd cc

abbrev behind_line : Heap → ℕ → Bool → List ℕ
behind_line h t over = cond over [] (holdings_text h t)

thread_is : (h : Heap) (t : ℕ) (status : Status) (over : Bool) → status ≡ status_at h t → over ≡ is_over status
    → thread_text h t ≡ thread_line t status ++ behind_line h t over
unfolding thread_text
thread_is h t status over is so = rw (so, is) refl

pub returns-in_err-put_status : goal.returns-in_err-put_status
returns-in_err-put_status g c =
    let p = err_from_is_err_and c.from_residual.result c.from_residual.ensures.1 in
    let h = c.args.world.now in
    let t = c.args.thread in
    let status = c.in-Some-Some.status in
    let is = some_read (is_registered h t) (status_at h t) status c.requires c.in-Some-Some.ensures in
    let behind = behind_line h t (is_over status) in
    let short = fails (thread_line t status) behind (starts (g.W.Write.contents c.args.writer.now) (thread_text h t))
    (thread_is h t status (is_over status) is refl)
    c.in_err-put_status.ensures.2 in
    rw (p.1, p.2) (c.in_err-put_status.ensures.0, c.in_err-put_status.ensures.1 ++ behind, short)

pub returns-then-is_over : goal.returns-then-is_over
returns-then-is_over g c =
    let h = c.args.world.now in
    let t = c.args.thread in
    let status = c.in-Some-Some.status in
    let is = some_read (is_registered h t) (status_at h t) status c.requires c.in-Some-Some.ensures in
    let over = sym c.if-is_over.true ∙ c.is_over.ensures in
    ends (goes_on _ (thread_line t status) (behind_line h t true)
    (starts (g.W.Write.contents c.args.writer.now) (thread_text h t)) (thread_is h t status true is over)
    c.in_ok-put_status.ensures) refl

pub returns : goal.returns
returns g c =
    let h = c.args.world.now in
    let t = c.args.thread in
    let status = c.in-Some-Some.status in
    let is = some_read (is_registered h t) (status_at h t) status c.requires c.in-Some-Some.ensures in
    let over = sym c.if-is_over.false ∙ c.is_over.ensures in
    let after_line = goes_on _ (thread_line t status) (behind_line h t false)
    (starts (g.W.Write.contents c.args.writer.now) (thread_text h t)) (thread_is h t status false is over)
    c.in_ok-put_status.ensures in
    last_puts (g.W.Write.contents c.put_holdings.new.writer) c.put_holdings.result (holdings_text h t) after_line refl
    c.put_holdings.ensures
