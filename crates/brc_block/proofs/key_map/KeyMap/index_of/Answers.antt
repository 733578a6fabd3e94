use Rattle.std.proofs.Common.{rules, ap, sym, ◌∙◌, is_some, position, w64}
use Rattle.std.proofs.lemmas.Int.{to_z-of_z}
use Rattle.std.specs.Map.{lookup}
use Rattle.brc_words.specs.declared.key.Key.TheVariants.{Int}
use Rattle.brc_words.specs.Keys.{same_key}
use Rattle.brc_block.specs.Lent_Keys.{key_lent}
use Rattle.brc_block.specs.Pairs.{keys_in}
use Rattle.brc_block.proofs.key_map.KeyMap.index_of.Goals as goal

pub returns-in-Int-clause-first : goal.returns-in-Int-clause-first
returns-in-Int-clause-first g c =
    let number = to_z-of_z w64 c.in-Int.number (search rules) in
    c.get_index_of.ensures.index
    ∙ ap (λ z. position (same_key (Int z)) (keys_in c.self.inside.map.entries)) number
    ∙ (λ i. position (same_key (key_lent (sym c.in-Int.is i))) (keys_in (c.self.view_is i).items))

pub returns-in-Int-clause-there : goal.returns-in-Int-clause-there
returns-in-Int-clause-there g c =
    let number = to_z-of_z w64 c.in-Int.number (search rules) in
    c.get_index_of.ensures.found
    ∙ ap (λ z. is_some (lookup (same_key (Int z)) c.self.inside.map.entries)) number
    ∙ (λ i. is_some (lookup (same_key (key_lent (sym c.in-Int.is i))) (c.self.view_is i).items))
