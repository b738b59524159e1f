-- The order that the program's words give. [Ours: a command first, then its options in any order, each at most once.]
use Rattle.std.specs.Prelude.{ℕ, ◌+◌, ◌-◌, ◌*◌, ◌&&◌, not, nat_le, Bool, true, false, if◌then◌else◌, List, [], ◌∷◌, Option, Some, None, is_some, codes, String, string_bytes, map}
use Rattle.std.specs.Option.{option_and_then, option_map}
use Rattle.std.specs.List.{before_first}
use Rattle.std.specs.Str.{bytes_eq}
use Rattle.std.specs.declared.alloc.Global.{Global}
use Rattle.iri_ref.specs.Parts.{is, part_after, is_well_formed}
use Rattle.ld_run.specs.declared.words.Command.{Command}
use Rattle.ld_run.specs.declared.words.Command.TheVariants.{Flatten, Expand}
use Rattle.ld_run.specs.declared.words.Order.{Order}
use Rattle.ld_run.specs.declared.words.Setting.{Setting}
use Rattle.ld_run.specs.declared.words.Setting.TheVariants.{Base, Contexts, Weight}

-- The bytes of the words.
abbrev pub words_of : List (String Global) → List (List ℕ)
words_of words = map string_bytes words

-- The command that a word names.
abbrev pub command_of : List ℕ → Option Command
command_of w = if bytes_eq w (codes "flatten") then Some Flatten else (if bytes_eq w (codes "expand") then Some Expand else None)

-- A command without options: no base URL, no folder of contexts, and no weight.
abbrev pub plain_order : Command → Order
plain_order c = record { command = c; base = None; contexts = false; weight = None }

-- The order with this base URL, where it has none and the text is a well-formed IRI (RFC 3986, section 3.1). That begins with a letter, so
-- no word that begins with `-` is a value.
abbrev pub with_base : Order → List ℕ → Option Order
with_base o iri = if not (is_some o.base) && is_well_formed iri then Some (record o { base = Some iri }) else None

-- The order with the folder of contexts, where it isn't yet.
abbrev pub with_contexts : Order → Option Order
with_contexts o = if o.contexts then None else Some (record o { contexts = true })

-- A digit from this one on, by its byte.
abbrev pub is_digit_from : ℕ → ℕ → Bool
is_digit_from first b = nat_le first b && nat_le b 57

-- The number of digits that follow one another, where it is at most 1,000,000; `n` is the number of those before.
abbrev pub number_with : ℕ → List ℕ → Option ℕ
number_with n [] = if nat_le n 1000000 then Some n else None
number_with n (b ∷ bs) = if is_digit_from 48 b then number_with (n * 10 + (b - 48)) bs else None

-- The weight that a word is: a number from 1 to 1,000,000 in decimal, without a sign or a leading zero.
abbrev pub weight_of : List ℕ → Option ℕ
weight_of [] = None
weight_of (b ∷ bs) = if is_digit_from 49 b then number_with (b - 48) bs else None

-- The order with this weight, where it has none and the text is one.
abbrev pub with_weight : Order → List ℕ → Option Order
with_weight o w = if is_some o.weight then None else option_map (λ n. record o { weight = Some n }) (weight_of w)

-- The order with an option of this name and this value.
abbrev pub with_named : Order → List ℕ → List ℕ → Option Order
with_named o name value = if bytes_eq name (codes "--base") then with_base o value else (if bytes_eq name (codes "--weight") then with_weight o value else None)

-- The order with an option that is one word: `--contexts`, or a name and a value, split at the first `=`.
abbrev pub with_word : Order → List ℕ → Option Order
with_word o w = if bytes_eq w (codes "--contexts") then with_contexts o else option_and_then (with_named o (before_first (is 61) w)) (part_after (is 61) w)

abbrev mutual
  -- The order with the options that these words are: the word `--base` or `--weight` and the next one, or one word.
  pub with_options : Order → List (List ℕ) → Option Order
  with_options o [] = Some o
  with_options o (w ∷ ws) =
      if bytes_eq w (codes "--base") then with_next with_base o ws
      else (if bytes_eq w (codes "--weight") then with_next with_weight o ws else option_and_then (λ p. with_options p ws) (with_word o w))

  -- Here the first word is an option's value.
  pub with_next : (Order → List ℕ → Option Order) → Order → List (List ℕ) → Option Order
  with_next with_value o [] = None
  with_next with_value o (v ∷ ws) = option_and_then (λ p. with_options p ws) (with_value o v)

-- The order that words give: the first is its command, and the others are its options.
abbrev pub order_of : List (List ℕ) → Option Order
order_of [] = None
order_of (w ∷ ws) = option_and_then (λ c. with_options (plain_order c) ws) (command_of w)

-- The order with one option that was read.
abbrev pub with_setting : Order → Setting → Option Order
with_setting o (Base iri) = with_base o iri.now
with_setting o Contexts = with_contexts o
with_setting o (Weight w) = with_weight o w.now

-- The order with that option, and with those that these words are.
abbrev pub with_first : Order → Setting → List (List ℕ) → Option Order
with_first o s ws = option_and_then (λ p. with_options p ws) (with_setting o s)
