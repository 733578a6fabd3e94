use Rattle.std.proofs.Common.{sym, ◌∙◌}
use Rattle.brc_count.specs.block.Lent_Keys.{key_lent}
use Rattle.brc_things.proofs.Standing.{first_stands, none_stands, cell_beside}
use Rattle.brc_things.proofs.seeking.seek.Goals as goal

pub returns-in_default-find : goal.returns-in_default-find
returns-in_default-find g c = record {
  pairs = c.in-Dict.pairs;
  is = c.in-Dict.is;
  none = none_stands (key_lent c.args.key) c.in-Dict.pairs.items c.in_default-find.ensures.none;
}

pub unreachable-requires : goal.unreachable-requires
unreachable-requires g c =
    cell_beside (key_lent c.args.key) c.in-Dict.pairs.items c.in-Some.index c.in-Some.ensures.found (sym c.noted.ensures
    ∙ c.in-None.is)

pub returns : goal.returns
returns g c = record {
  pairs = c.in-Dict.pairs;
  is = c.in-Dict.is;
  stands = first_stands (key_lent c.args.key) c.in-Dict.pairs.items c.in-Some.index c.in-Some.ensures.found
      c.in-Some.ensures.first;
  beside = sym c.noted.ensures ∙ c.in-Some-noted.is;
}
