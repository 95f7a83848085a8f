-- The command words.
use Rattle.std.specs.Prelude.{ℕ, cond, List, [], ◌∷◌, Some, None, codes, Option}
use Rattle.lines.specs.declared.words.Word.{Word}
use Rattle.lines.specs.declared.words.Word.TheVariants as word
use Rattle.std.specs.Str.{bytes_eq}

-- A word of the list: its bytes, and which word it is.
pub record Entry : Type 0 where
  pub text : List ℕ
  pub word : Word

-- All command words, in the order in which they are tried.
abbrev pub words : List Entry
words =
    record { text = codes "set"; word = word.Set }
    ∷ record { text = codes "add"; word = word.Add }
    ∷ record { text = codes "replace"; word = word.Replace }
    ∷ record { text = codes "cas"; word = word.Cas }
    ∷ record { text = codes "get"; word = word.Get }
    ∷ record { text = codes "gets"; word = word.Gets }
    ∷ record { text = codes "delete"; word = word.Delete }
    ∷ record { text = codes "touch"; word = word.Touch }
    ∷ record { text = codes "flush_all"; word = word.FlushAll }
    ∷ record { text = codes "version"; word = word.Version }
    ∷ record { text = codes "quit"; word = word.Quit }
    ∷ record { text = codes "stats"; word = word.Stats }
    ∷ []

-- The first word of a list that has just these bytes.
abbrev pub named_in : List Entry → List ℕ → Option Word
named_in [] token = None
named_in (e ∷ es) token = cond (bytes_eq token e.text) (Some e.word) (named_in es token)

-- The command word that a token is.
abbrev pub named : List ℕ → Option Word
named token = named_in words token
