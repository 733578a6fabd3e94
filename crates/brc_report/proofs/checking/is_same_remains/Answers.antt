use Rattle.std.proofs.lemmas.Slice.Eq.{slice_eq-Decides}
use Rattle.brc_report.proofs.Unique.{remain_decides}
use Rattle.brc_report.proofs.checking.is_same_remains.Goals as goal

pub returns : goal.returns
returns c =
    slice_eq-Decides remain_decides c.args.remains.now c.args.others.now c.eq.result c.eq.ensures
