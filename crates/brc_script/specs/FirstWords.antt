-- The words with which lines begin.
use Rattle.std.specs.Prelude.{ℕ, List, Option, codes, find}
use Rattle.std.specs.Str.{bytes_eq}
use Rattle.brc_script.specs.declared.first_word.FirstWord.{FirstWord}
use Rattle.brc_script.specs.declared.first_word.FirstWord.TheVariants as words
use Rattle.brc_script.specs.declared.first_word.TheConstants.{FIRST_WORDS}

-- each word as it stands in a script
abbrev pub first_word : FirstWord → List ℕ
first_word words.Int = codes "int"
first_word words.Text = codes "text"
first_word words.List = codes "list"
first_word words.Dict = codes "dict"
first_word words.Mailbox = codes "mailbox"
first_word words.Copy = codes "copy"
first_word words.Drop = codes "drop"
first_word words.Push = codes "push"
first_word words.Pop = codes "pop"
first_word words.Get = codes "get"
first_word words.Set = codes "set"
first_word words.Len = codes "len"
first_word words.Put = codes "put"
first_word words.Find = codes "find"
first_word words.Del = codes "del"
first_word words.Share = codes "share"
first_word words.Fetch = codes "fetch"
first_word words.Unshare = codes "unshare"
first_word words.Send = codes "send"
first_word words.Recv = codes "recv"
first_word words.Add = codes "add"
first_word words.Print = codes "print"
first_word words.Section = codes "section"
first_word words.Repeat = codes "repeat"
first_word words.End = codes "end"

-- the word that the bytes spell
unfoldable pub first_word_at : List ℕ → Option FirstWord
first_word_at bytes = find (λ word. bytes_eq (first_word word) bytes) FIRST_WORDS
