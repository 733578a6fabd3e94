use Rattle.std.proofs.lemmas.Str.{IsUtf8-from_ascii}
use Rattle.brc_script.proofs.operands.copy.Goals as goal

pub returns-in_default-clause-copied : goal.returns-in_default-clause-copied
returns-in_default-clause-copied g c =
    absurd (c.in_default.ensures.cases.0 (IsUtf8-from_ascii c.args.bytes.now c.requires))
