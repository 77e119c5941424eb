-- What is said of a group in words.
use Rattle.std.specs.Prelude.{ℕ, ◌==◌, List, [], ◌∷◌, length, codes, decimal, if◌then◌else◌}
use Rattle.pgp_ids.specs.Names.{verdict_name}
use Rattle.pgp_ids.specs.declared.report.Info.{Info}
use Rattle.pgp_group_words.specs.IntervalWords.{interval_lines}
use Rattle.pgp_group_words.specs.Text.{Text, joined, line, text_of_each}
use Rattle.pgp_group_words.specs.Names.{cluster_epoch, epoch_name, group_name, leader_name, member_name, version_name, places_name}
use Rattle.pgp_group_words.specs.Sentence.{naming_of, unheard_of, sentence_of}
use Rattle.pgp_group_words.specs.WaysWords.{ways_lines, resort_lines}
use Rattle.pgp_group_words.specs.declared.advice.Advice.{Advice}
use Rattle.pgp_group_words.specs.declared.explanation.Explanation.{Explanation}
use Rattle.pgp_group_words.specs.declared.offset.EpochOffset.{EpochOffset}
use Rattle.pgp_group_words.specs.declared.page.Naming.{Naming}

-- the group, its verdict and the sentence on it
unfoldable pub heading : Naming → Explanation → Text
heading naming explanation = line (
    codes "group "
    ∷ group_name explanation.pg
    ∷ codes " at epoch "
    ∷ epoch_name naming.offset explanation.view.epoch
    ∷ codes ": "
    ∷ verdict_name explanation.view.verdict
    ∷ codes "\n"
    ∷ sentence_of naming explanation
    ∷ [])

-- the epoch in which a group last served, with this before and that behind it; epoch 0 stands for never, of which this is said
unfoldable pub les_part : (never before : Text) → ℕ → (after : Text) → Text
les_part never before les after = if les == 0 then never else joined (before ∷ decimal les ∷ after ∷ [])

-- who serves the group, and since when
unfoldable pub acting_line : Naming → Explanation → Text
acting_line naming explanation = line (
    codes "\nacting "
    ∷ places_name explanation.view.acting
    ∷ codes ", led by "
    ∷ leader_name explanation.view.acting_primary
    ∷ codes ", since epoch "
    ∷ epoch_name naming.offset explanation.view.first
    ∷ codes " (of size "
    ∷ decimal explanation.pool.size
    ∷ codes ", at least "
    ∷ decimal explanation.pool.min_size
    ∷ codes ")"
    ∷ [])

-- where the group lies, since when, and when it last served
unfoldable pub place_lines : Naming → Explanation → Text
place_lines naming explanation = joined (
    acting_line naming explanation
    ∷ codes "up     "
    ∷ places_name explanation.view.up
    ∷ codes "\n"
    ∷ les_part
    (codes "It is not known to have served.\n")
    (codes "It is known to have last begun to serve in epoch ")
    (cluster_epoch naming.offset explanation.view.les)
    (codes ".\n")
    ∷ [])

-- who sent an info, when, and how far the copy goes
unfoldable pub sender_part : Naming → Info → Text
sender_part naming info = joined (
    member_name naming info.member
    ∷ codes "  sent in epoch "
    ∷ epoch_name naming.offset info.stamp
    ∷ codes ", "
    ∷ (if info.complete then codes "complete" else codes "not complete")
    ∷ codes ", last write "
    ∷ version_name naming.offset info.last_update
    ∷ [])

-- what an info says: the same, when its sender last served, and when it knows that the group last did
unfoldable pub info_words : Naming → Info → Text
info_words naming info = joined (
    sender_part naming info
    ∷ les_part (codes ", has not served") (codes ", began to serve in epoch ") (cluster_epoch naming.offset info.les) []
    ∷ les_part [] (codes ", knows of epoch ") (cluster_epoch naming.offset info.history_les) []
    ∷ [])

-- a heading, and a line for each of these; where there are none, this alone
unfoldable pub list_lines : {A : Type 0} → Text → (A → Text) → Text → List A → Text
list_lines heading words none xs = if length xs == 0 then none else joined (heading ∷ text_of_each (codes "\n  ") words xs ∷ codes "\n" ∷ [])

-- what is said of a group, with names of this kind
unfoldable pub advice_lines : Naming → Advice → Text
advice_lines naming advice = joined (
    heading naming advice.explanation
    ∷ place_lines naming advice.explanation
    ∷ list_lines (codes "\nHeard:") (info_words naming) (codes "\nHeard:\n  nobody\n") advice.explanation.reasons.heard
    ∷ list_lines (codes "Not heard:") (member_name naming) [] (unheard_of advice.explanation)
    ∷ text_of_each (codes "\n") (interval_lines naming) advice.explanation.reasons.blocking
    ∷ ways_lines naming advice
    ∷ resort_lines naming advice.last_resort
    ∷ [])

-- what is said of a group in words
abbrev pub words_of : Advice → EpochOffset → Text
words_of advice offset = advice_lines (naming_of advice.explanation offset) advice
