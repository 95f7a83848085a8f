-- A line with its tokens.
use Rattle.std.proofs.Common.{◌≡◌, ℕ, ◌+◌, ◌-◌, ◌<◌, ◌≤◌, Bool, true, cond, List, [], map, length, get_or, take, drop, ℤ, Some, None, Option, Result, sym, refl, ap, ◌∙◌, subst, arith}
use Rattle.lines.proofs.Places.{count_splits}
use Rattle.lines.specs.declared.Fault.{Fault}
use Rattle.lines.specs.declared.Fault.TheVariants.{BadLine}
use Rattle.lines.specs.declared.line.Line.{Line}
use Rattle.lines.specs.declared.request.Keys.{Keys}
use Rattle.lines.specs.declared.request.Request.{Request}
use Rattle.lines.specs.declared.tokens.Span.{Span}
use Rattle.lines.specs.declared.words.Word.{Word}
use Rattle.lines.specs.Command.{Asks, Faulty, Get}
use Rattle.lines.specs.Lines.{Cut, args, rest, toks}
use Rattle.lines.specs.Numbers.{exptime_of, flags_of, good_keys, key_of, size_of}
use Rattle.lines.specs.Reading.{alone, by_word, gathered, retrieval, storage, takes, worded}
use Rattle.lines.specs.Requests.{Answers, KeysOf, key_list}
use Rattle.lines.specs.Spans.{CutAt, span_bytes, nth_span}
use Rattle.lines.specs.Tokens.{tokens}
use Rattle.std.proofs.lemmas.List.{drop-map, get_or-drop, get_or-take, length-drop, length-take-le}
use Rattle.std.proofs.lemmas.Bool.{cond-true}

pub count_tokens : (l : Line) → Cut l → length (toks l) ≡ length l.tokens.items
count_tokens l cut = count_splits (take l.end l.bytes.now) l.tokens.items cut.split

-- A line whose word has as many tokens behind it as it takes; `n` is the count of all tokens as the code has it.
module _ (l : Line) (w : Word) (n : ℕ) (counted : n ≡ length l.tokens.items) where
  count_args : n - 1 ≡ length (args l)
  count_args = omega (arith, length-drop 1 (toks l), count_tokens l l.cut)

  pub answered : (v : Word) (r : Result Request Fault) → takes w (n - 1) ≡ true → w ≡ v
      → Answers l.bytes.now (worded v (args l) (rest l)) r → Answers l.bytes.now (by_word (Some w) (args l) (rest l)) r
  answered v r e same h =
      let chosen : by_word (Some w) (args l) (rest l) ≡ worded v (args l) (rest l) =
      cond-true _ _ _ (ap (takes w) (sym count_args) ∙ e) ∙ ap (λ (u : Word). worded u (args l) (rest l)) same in
      subst (λ says. Answers l.bytes.now says r) (sym chosen) h

-- With a bad cas number the line is a bad one, whatever else it says.
no_number : (k : Option (List ℕ)) (f : Option ℕ) (e : Option ℤ) (n : Option ℕ) (rest : List ℕ) → gathered k f e n None rest ≡ Faulty BadLine
no_number None f e n rest = refl
no_number (Some k) None e n rest = refl
no_number (Some k) (Some f) None n rest = refl
no_number (Some k) (Some f) (Some e) None rest = refl
no_number (Some k) (Some f) (Some e) (Some n) rest = refl

pub no_verb : (args : List (List ℕ)) (rest : List ℕ) → storage None args rest ≡ Faulty BadLine
no_verb args rest =
    no_number (key_of (get_or args 0 [])) (flags_of (get_or args 1 [])) (exptime_of (get_or args 2 [])) (size_of (get_or args 3 [])) rest

module _ (bytes : List ℕ) (end : ℕ) (spans : List Span) (keys : Keys) (cut : CutAt bytes end spans) (few : length spans ≤ 5)
    (line : keys.line.now ≡ take end bytes) (own : take keys.count keys.spans ≡ drop 1 spans) (count : keys.count ≡ length spans - 1) where
  pub keys_are : key_list keys ≡ drop 1 (tokens (take end bytes))
  keys_are =
      ap (λ ls. map (span_bytes ls) (take keys.count keys.spans)) line
      ∙ ap (map (span_bytes (take end bytes))) own
      ∙ sym (drop-map (span_bytes (take end bytes)) 1 spans)
      ∙ ap (drop 1) cut.split.all

  nth_own : (i : ℕ) → i < keys.count → nth_span keys.spans i ≡ nth_span spans (1 + i)
  nth_own i h = sym (get_or-take keys.count keys.spans i _ h) ∙ ap (λ ss. nth_span ss i) own ∙ get_or-drop 1 spans i _

  pub keys_of : KeysOf bytes keys
  keys_of =
      let long : length keys.line.now ≡ end = ap length line ∙ length-take-le end bytes (omega (arith, cut.ended)) in
      record {
        line = ap (λ k. take k bytes) long ∙ sym line;
        few = omega (arith, count);
        inside = λ i h.
            let same = nth_own i h in
            omega (arith, count, long, cut.split.inside (1 + i) (omega (arith, count)), ap (λ (s : Span). s.at) same, ap (λ (s : Span). s.len) same, length-take-le end bytes (omega (arith, cut.ended)));
      }

  -- A get of good keys with nothing behind its line.
  pub got : (cas : Bool) (rest : List ℕ) → good_keys (drop 1 (tokens (take end bytes))) ≡ true → rest ≡ []
      → (retrieval cas (drop 1 (tokens (take end bytes))) rest ≡ Asks (Get cas (key_list keys))) × KeysOf bytes keys
  got cas rest good none =
      let args = drop 1 (tokens (take end bytes)) in (
        ap (λ b. cond b (alone rest (Get cas args)) (Faulty BadLine)) good
            ∙ ap (λ r. alone r (Get cas args)) none
            ∙ ap (λ ks. Asks (Get cas ks)) (sym keys_are),
        keys_of,
      )
