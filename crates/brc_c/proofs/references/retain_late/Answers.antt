use Rattle.brc_c.proofs.references.retain_late.Goals as goal

pub returns-clause-does : goal.returns-clause-does
returns-clause-does c = record {
  answer = c.retain.result;
  made = record {
    gave = c.retain.ensures.more;
    refused = c.retain.ensures.refused;
    names = c.retain.ensures.names;
    keeps = c.retain.ensures.keeps;
    unchanged = c.retain.ensures.unchanged;
  };
  told = c.write.ensures.code;
  written = c.write.ensures.written;
}
