-- A row whose word was completed by its check octets is encoded; one whose word was corrected is mended.
use Rattle.std.proofs.Common.{◌≡◌, ℕ, ◌<◌, List, ◌++◌, length, get_or, take, sym, ap, ◌∙◌, subst, arith}
use Rattle.octets.specs.Octets.{Octets, altered}
use Rattle.octets.specs.Words.{word_length, word_of, KeepsOthers}
use Rattle.octets.proofs.Octets.{octets_take}
use Rattle.octets.proofs.Words.{word_octets, word_size}
use Rattle.code.specs.Calls.{Encoded, Mended}
use Rattle.code.specs.Meaning.{Reached}
use Rattle.rs16.specs.Codewords.{Codeword, rs16}
use Rattle.rs16.specs.Division.{checks}
use Rattle.rs16.specs.Mending.{corrected, Corrects}
use Rattle.rs16.specs.declared.corrections.Correction.{Correction}
use Rattle.rs16.proofs.Correcting.{counted}
use Rattle.rs16.specs.Remainders.{completed, completed_codeword, completed_begins}

pub encoded : (depth w : ℕ) (before after r : List ℕ) → ((q : ℕ) → get_or before q 0 < 256)
    → r ≡ checks (take 223 (word_of depth w before)) → word_of depth w after ≡ take 223 (word_of depth w before) ++ r
    → KeepsOthers depth w before after → Encoded rs16 depth w before after
encoded depth w before after r octets is-checks is_IsWord others =
    let h : List ℕ = take 223 (word_of depth w before) in
    let ho : Octets 223 (take 223 (word_of depth w before)) = octets_take word_length 223 (word_of depth w before) (omega arith) (word_octets depth w before octets) in
    let is : word_of depth w after ≡ completed (take 223 (word_of depth w before)) = is_IsWord ∙ ap (λ z. h ++ z) is-checks in
    record {
      is_codeword = subst Codeword (sym is) (completed_codeword h ho);
      information = ap (take 223) is ∙ completed_begins h ho;
      keeps = others;
    }

pub mended : (depth w : ℕ) (before after word : List ℕ) (found : List Correction) → word ≡ word_of depth w before → Corrects word found
    → Reached rs16 word (corrected found word) → word_of depth w after ≡ corrected found (word_of depth w before)
    → KeepsOthers depth w before after → Mended rs16 depth w (length found) before after
mended depth w before after word found is corrects reached is_IsWord others =
    let old : List ℕ = word_of depth w before in
    let right : Corrects (word_of depth w before) found = subst (λ v. Corrects v found) is corrects in
    record {
      reached = subst (Reached rs16 old) (sym is_IsWord) (subst (λ v. Reached rs16 v (corrected found v)) is reached);
      counted = sym (ap (altered word_length old) is_IsWord ∙ counted old found (word_size depth w before) right);
      keeps = others;
    }
