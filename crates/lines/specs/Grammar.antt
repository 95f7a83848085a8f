-- Requests as the protocol's grammar writes them, and that they read back.
use Rattle.std.specs.Prelude.{◌≡◌, ℕ, suc, ◌+◌, ◌^◌, ◌<◌, ◌≤◌, true, false, List, [], ◌∷◌, ◌++◌, length, replicate, ℤ, pos, negsuc, codes, decimal}
use Rattle.lines.specs.declared.Verb.{Verb}
use Rattle.lines.specs.declared.Verb.TheVariants.{Set, Add, Replace, Cas}
use Rattle.lines.specs.Command.{Item, Command, Get, Store, Delete, Touch, FlushAll, Version, Quit, Stats, Asks}
use Rattle.lines.specs.Numbers.{good_key, good_keys}
use Rattle.lines.specs.Reading.{reading}
use Rattle.lines.specs.Tokens.{crlf}
use Rattle.std.specs.Fmt.{signed_decimal}

-- A signed number of 32 bits.
abbrev pub Short : ℤ → Type 0
Short (pos n) = n < 2 ^ 31
Short (negsuc n) = n < 2 ^ 31

-- The number of a cas has 64 bits.
abbrev pub LawfulVerb : Verb → Type 0
LawfulVerb Set = Unit {0}
LawfulVerb Add = Unit {0}
LawfulVerb Replace = Unit {0}
LawfulVerb (Cas n) = n < 2 ^ 64

-- An item with a good key and each number in its range.
pub record LawfulItem (i : Item) : Type 0 where
  pub key : good_key i.key ≡ true
  pub flags : i.flags < 2 ^ 32
  pub exptime : Short i.exptime
  pub block : length i.block ≤ 60000

-- 1 to 4 good keys.
pub record LawfulKeys (ks : List (List ℕ)) : Type 0 where
  pub some : 1 ≤ length ks
  pub few : length ks ≤ 4
  pub good : good_keys ks ≡ true

-- A command with good keys and each number in its range.
abbrev pub Lawful : Command → Type 0
Lawful (Get cas ks) = LawfulKeys ks
Lawful (Store verb i) = LawfulVerb verb × LawfulItem i
Lawful (Delete k) = good_key k ≡ true
Lawful (Touch k e) = (good_key k ≡ true) × Short e
Lawful FlushAll = Unit {0}
Lawful Version = Unit {0}
Lawful Quit = Unit {0}
Lawful Stats = Unit {0}

-- The tokens of an item: key, flags, exptime, length of the block, and what its verb adds.
abbrev pub item_tokens : Item → List (List ℕ) → List (List ℕ)
item_tokens i more = i.key ∷ decimal i.flags ∷ signed_decimal i.exptime ∷ decimal (length i.block) ∷ more

-- The tokens of a storage command.
abbrev pub store_tokens : Verb → Item → List (List ℕ)
store_tokens Set i = codes "set" ∷ item_tokens i []
store_tokens Add i = codes "add" ∷ item_tokens i []
store_tokens Replace i = codes "replace" ∷ item_tokens i []
store_tokens (Cas n) i = codes "cas" ∷ item_tokens i (decimal n ∷ [])

-- The tokens of the line that asks for a command.
abbrev pub line_tokens : Command → List (List ℕ)
line_tokens (Get false ks) = codes "get" ∷ ks
line_tokens (Get true ks) = codes "gets" ∷ ks
line_tokens (Store verb i) = store_tokens verb i
line_tokens (Delete k) = codes "delete" ∷ k ∷ []
line_tokens (Touch k e) = codes "touch" ∷ k ∷ signed_decimal e ∷ []
line_tokens FlushAll = codes "flush_all" ∷ []
line_tokens Version = codes "version" ∷ []
line_tokens Quit = codes "quit" ∷ []
line_tokens Stats = codes "stats" ∷ []

-- What stands behind the line: the block and its CR LF, or nothing.
abbrev pub tail : Command → List ℕ
tail (Get cas ks) = []
tail (Store verb i) = i.block ++ crlf
tail (Delete k) = []
tail (Touch k e) = []
tail FlushAll = []
tail Version = []
tail Quit = []
tail Stats = []

-- Tokens in a line, a space between two of them. `extra` says how many spaces more stand before each token and behind the last.
abbrev pub spaced : (ℕ → ℕ) → List (List ℕ) → List ℕ
spaced extra [] = replicate (extra 0) 32
spaced extra (t ∷ []) = replicate (extra 0) 32 ++ (t ++ replicate (extra 1) 32)
spaced extra (t ∷ u ∷ ts) = replicate (extra 0) 32 ++ (t ++ (32 ∷ spaced (λ i. extra (suc i)) (u ∷ ts)))

-- The bytes of a request for a command.
abbrev pub written : (ℕ → ℕ) → Command → List ℕ
written extra c = spaced extra (line_tokens c) ++ (crlf ++ tail c)

-- A request that is written for a command by the grammar, for all keys, numbers and data in range and with any extra spaces, reads as
-- that command, if its line with its CR LF lies within the first 2,048 bytes.
abbrev pub ReadsBack : Type 0
ReadsBack =
    (c : Command) (extra : ℕ → ℕ) → Lawful c → length (spaced extra (line_tokens c)) + 2 ≤ 2048 → reading (written extra c) ≡ Asks c

-- A command that some bytes ask for has good keys and each number in its range.
abbrev pub ReadsLawful : Type 0
ReadsLawful = (bytes : List ℕ) (c : Command) → reading bytes ≡ Asks c → Lawful c
