-- The arguments of the program, each a word: first what its command is, then what words say. Which words are well formed, and what they match, is clap's definition of a simple command.
use Rattle.std.specs.Prelude.{ℕ, true, false, List, [], ◌∷◌, Option, Some, None, pos, codes, nat_eq, if◌then◌else◌, option_and_then}
use Rattle.std.specs.Cmp.Lexicographic.{pointwise}
use Rattle.std.specs.Str.Parse.{digits_value, without_leading_plus}
use Rattle.clap.specs.Faults.{fault_of}
use Rattle.clap.specs.Kinds.{Kinds}
use Rattle.clap.specs.Simple.{App, Shape, matches_of, new_app, new_rule, on_top, with_rule}
use Rattle.clap.specs.ValueTests.{accepts}
use Rattle.clap.specs.Walk.{Row, Rule, Text, first_of, one_of}
use Rattle.clap.specs.declared.builder.value_parser.ValueParser.TheVariants as vp
use Rattle.yp_words.specs.declared.words.Mode.{Mode}
use Rattle.yp_words.specs.declared.words.Mode.TheVariants.{Run, Live, Replay, Gen, Trial}
use Rattle.yp_words.specs.declared.words.Words.{Words}

-- ---- the command

-- an option whose value is a number: its name, its bounds, and the number that stands for it where it isn't given
pub record NumberOption : Type 0 where
  pub name : Text
  pub least : ℕ
  pub most : ℕ
  pub default : ℕ

-- `--workers N`: how many workers follow the journal of a live run
abbrev pub workers_option : NumberOption
workers_option = record { name = codes "workers"; least = 1; most = 8; default = 2 }

-- `--seed N`: the number from which a script is drawn
abbrev pub seed_option : NumberOption
seed_option = record { name = codes "seed"; least = 0; most = 4294967295; default = 1 }

-- `--size N`: how many commands of a script are drawn
abbrev pub size_option : NumberOption
size_option = record { name = codes "size"; least = 1; most = 10000; default = 100 }

-- such an option: it has one value, which the help gives a name, and which is a whole number within the bounds
abbrev pub number_rule : NumberOption → Rule
number_rule option = record (new_rule option.name) {
  long = Some option.name;
  value_names = 1;
  parser = Some (vp.Signed (pos option.least) (pos option.most));
}

-- the mode: the one word that belongs to no option, and has to be there
abbrev pub mode_rule : Rule
mode_rule = record (new_rule (codes "mode")) { value_names = 1; required = true }

-- the program's name isn't among the words, and its version can be asked for
abbrev pub push_settings : Shape → Shape
push_settings shape = record shape { no_binary_name = true; has_version = true }

-- the command `push`
abbrev pub push_app : App
push_app = with_rule (with_rule (with_rule (with_rule (on_top push_settings (new_app (codes "push"))) mode_rule) (number_rule workers_option)) (number_rule seed_option)) (number_rule size_option)

-- ---- what words say

-- the mode of a name
abbrev pub mode_named : Text → Option Mode
mode_named name =
    if pointwise nat_eq name (codes "run") then Some Run else
    (if pointwise nat_eq name (codes "live") then Some Live else
    (if pointwise nat_eq name (codes "replay") then Some Replay else
    (if pointwise nat_eq name (codes "gen") then Some Gen else
    (if pointwise nat_eq name (codes "trial") then Some Trial else None))))

-- the number that a text is, within bounds: decimal digits, with or without a plus before them
abbrev pub number_within : ℕ → ℕ → Text → Option ℕ
number_within least most text = if accepts false (vp.Unsigned least most) text then Some (digits_value 10 (without_leading_plus text)) else None

-- the number of an option by its value, if it has one
abbrev pub number_or_default : NumberOption → Option Text → Option ℕ
number_or_default option None = Some option.default
number_or_default option (Some text) = number_within option.least option.most text

-- the mode that words name, by what they match
abbrev pub mode_of_rows : List Row → Option Mode
mode_of_rows rows = option_and_then mode_named (first_of (codes "mode") rows)

-- the number that words give an option, by what they match
abbrev pub number_of_rows : NumberOption → List Row → Option ℕ
number_of_rows option rows = number_or_default option (one_of option.name rows)

-- a mode with numbers, if each of them is there
abbrev pub words_with : Option Mode → Option ℕ → Option ℕ → Option ℕ → Option Words
words_with (Some mode) (Some workers) (Some seed) (Some size) = Some (record { mode = mode; workers = workers; seed = seed; size = size })
words_with mode workers seed size = None

-- what words say, by what they match
abbrev pub words_of_rows : List Row → Option Words
words_of_rows rows = words_with (mode_of_rows rows) (number_of_rows workers_option rows) (number_of_rows seed_option rows) (number_of_rows size_option rows)

-- the same, if there is no reason to refuse them
abbrev pub words_unless : Kinds → List Row → Option Words
words_unless [] rows = words_of_rows rows
words_unless (reason ∷ reasons) rows = None

-- what words say: they are those that the command takes, and name a mode
abbrev pub words_in : List Text → Option Words
words_in words = words_unless (fault_of push_app words) (matches_of push_app words)
