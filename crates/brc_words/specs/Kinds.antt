use Rattle.std.specs.Prelude.{Bool, true, false}
use Rattle.brc_words.specs.declared.kind.Kind.{Kind}
use Rattle.brc_words.specs.declared.kind.Kind.TheVariants as kinds

-- objects of these kinds are born and die; None, False and True are immortal alone
abbrev pub is_mortal : Kind → Bool
is_mortal kinds.Int = true
is_mortal kinds.Text = true
is_mortal kinds.List = true
is_mortal kinds.Dict = true
is_mortal kinds.Mailbox = true
is_mortal kinds.Nothing = false
is_mortal kinds.False = false
is_mortal kinds.True = false

-- objects of these kinds have entries
abbrev pub is_container : Kind → Bool
is_container kinds.Int = false
is_container kinds.Text = false
is_container kinds.List = true
is_container kinds.Dict = true
is_container kinds.Mailbox = true
is_container kinds.Nothing = false
is_container kinds.False = false
is_container kinds.True = false
