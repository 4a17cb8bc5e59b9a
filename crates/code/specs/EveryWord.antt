-- The code bare keeps the laws of a code, and a row is encoded and mended as it stands.
use Rattle.std.specs.Prelude.{◌≡◌, ℕ, ◌<◌, ◌≤◌, List, take, Ok, Err, Result, ◌≢◌, slice_index, refl}
use Rattle.std.proofs.Common.{sym, ◌∙◌, inl, inr, arith}
use Rattle.std.proofs.lemmas.List.{take_all}
use Rattle.std.proofs.lemmas.Bool.{cases_lt}
use Rattle.octets.specs.Octets.{Octets, altered}
use Rattle.octets.specs.Words.{word_length, word_of}
use Rattle.octets.proofs.Octets.{altered_self, equal_from_altered}
use Rattle.octets.proofs.Words.{keeps_self, word_octets}
use Rattle.code.specs.Bare.{bare}
use Rattle.code.specs.Calls.{Checks, Encoded, Encodes, Mended}
use Rattle.code.specs.Meaning.{CodeLaws}
use Rattle.code.specs.declared.fault.ShapeFault.{ShapeFault}

-- words that are not one differ in a place
apart_by_one : (a b : List ℕ) → Octets word_length a → Octets word_length b → (a ≢ b) → 1 ≤ altered word_length a b
apart_by_one a b ha hb ne = elim (cases_lt 0 (altered word_length a b)) [
  | inl some ↦ some
  | inr none ↦ absurd (ne (equal_from_altered word_length a b ha.size hb.size (omega arith)))
]

whole : (word : List ℕ) → Octets word_length word → take word_length word ≡ word
whole word h = take_all word_length word (omega (arith, h.size))

pub bare_lawful : CodeLaws bare
bare_lawful = record {
  some_information = omega arith;
  information_fits = omega arith;
  reach_bounded = omega arith;
  octets = λ word h. h;
  apart = apart_by_one;
  begins = λ octets h. record {
    codeword = octets;
    is_codeword = h;
    begins = whole octets h;
    only = λ other o e. sym (whole other o) ∙ e;
  };
}

pub encoded_as_is : (depth word : ℕ) (row : List ℕ) → ((q : ℕ) → slice_index row q < 256) → Encoded bare depth word row row
encoded_as_is depth word row octets = record {
  is_codeword = word_octets depth word row octets;
  information = refl;
  keeps = keeps_self depth word row;
}

-- the answer of the checks is the answer of encode
pub encodes_as_is : (depth word : ℕ) (row : List ℕ) → ((q : ℕ) → slice_index row q < 256) → (r : Result Unit ShapeFault)
    → Checks depth word row r → Encodes bare depth word row r row
encodes_as_is depth word row octets (Ok u) e = (e, encoded_as_is depth word row octets)
encodes_as_is depth word row octets (Err fault) e = (e, refl)

pub mended_as_is : (depth word : ℕ) (row : List ℕ) → ((q : ℕ) → slice_index row q < 256) → Mended bare depth word 0 row row
mended_as_is depth word row octets = record {
  reached = record {
    is_codeword = word_octets depth word row octets;
    near = omega (arith, altered_self word_length (word_of depth word row));
  };
  counted = sym (altered_self word_length (word_of depth word row));
  keeps = keeps_self depth word row;
}
