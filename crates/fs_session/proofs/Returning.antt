-- The UPDATE of a rule is read as the update that announces it.
use Rattle.fs_session.proofs.Words.{◌≡◌, ℕ, ◌+◌, ◌<◌, ◌≤◌, ◌==◌, ◌^◌, Bool, true, false, not, ◌&&◌, nat_le, List, [], ◌∷◌, Ok, All, length}
use Rattle.fs_session.proofs.Words.{if◌then◌else◌, refl, arith, AllByRecursion, list_all, leb-true, nat_tests, Terms, AreNumbers, is_written_segment}
use Rattle.fs_session.proofs.Words.{segment, update_of, IsSound, Sent, AreSendable, IsSent, RulesComeBack, body_by, is_short, path_by, segments_sent}
use Rattle.fs_session.proofs.Words.{update_by, terms_of}
use Rattle.std.proofs.lemmas.List.Elements.{All-cons, All-from_recursion, All-nil}
use Rattle.fs_base.proofs.Covers.{family_itself}
use Rattle.fs_nlri.specs.Rule.{IsRule}
use Rattle.fs_attrs.{specs.{Lists.{IsPrefix}, Writable.{is_path_of_session, is_writable}}, proofs.UpdateReadBack.{read_back}}

-- it can be written

own_path : (terms : Terms) (numbers : List ℕ) → is_path_of_session terms (path_by terms numbers) ≡ true
own_path terms numbers = by terms.external where
  by : (external : Bool) → (if external then (external && true) && true else not external) ≡ true
  by true = refl
  by false = refl

segments_written : (external : Bool) (numbers : List ℕ) → length numbers ≤ 255 → list_all (is_written_segment external) (segments_sent numbers) ≡ true
segments_written external numbers few = by (length numbers == 0) refl where
  ends : (external : Bool) → (nat_le 2 (if external then 2 else 4) && true) ≡ true
  ends true = refl
  ends false = refl

  by : (none : Bool) → (length numbers == 0) ≡ none → list_all (is_written_segment external) (if none then [] else segment 2 numbers ∷ []) ≡ true
  by true e = refl
  by false e =
      let some : nat_le 1 (length numbers) ≡ true = grind (arith, nat_tests) in
      let most : nat_le (length numbers) 255 ≡ true = grind (arith, nat_tests) in
      rw (some, most) (ends external)

writable : (terms : Terms) (numbers : List ℕ) (sent : Sent) → length numbers ≤ 255 → is_writable terms (update_by terms numbers sent) ≡ true
writable terms numbers sent few =
    rw (family_itself sent.rule.family, own_path terms numbers, segments_written terms.external numbers few) refl

-- and is sound

segments_sound : (numbers : List ℕ) → AllByRecursion (λ (asn : ℕ). asn < 2 ^ 32) numbers → All AreNumbers (segments_sent numbers)
segments_sound numbers small = by (length numbers == 0) where
  by : (none : Bool) → All AreNumbers (if none then [] else segment 2 numbers ∷ [])
  by true = All-nil AreNumbers
  by false = All-cons AreNumbers (segment 2 numbers) [] (All-from_recursion (λ (asn : ℕ). asn < 2 ^ 32) numbers small) (All-nil AreNumbers)

sound : (terms : Terms) (numbers : List ℕ) (sent : Sent) → AreSendable numbers → IsSent sent → IsSound (update_by terms numbers sent)
sound terms numbers sent numbered is = record {
  classic_out = All-nil IsPrefix;
  classic_in = All-nil IsPrefix;
  reach = All-cons IsRule sent.rule [] is.rule (All-nil IsRule);
  unreach = tt;
  path = record { segments = segments_sound numbers numbered.each; local_pref = omega arith; originator = tt; actions = is.actions };
}

pub update_read : (terms : Terms) (numbers : List ℕ) (sent : Sent) → terms.four ≡ true → AreSendable numbers → IsSent sent → is_short terms numbers sent ≡ true
    → update_of terms (body_by terms numbers sent) ≡ Ok (update_by terms numbers sent)
unfolding body_by
update_read terms numbers sent four numbered is short =
    let small = leb-true (19 + length (body_by terms numbers sent)) 4096 short in
    read_back terms (update_by terms numbers sent) (writable terms numbers sent numbered.few) (sound terms numbers sent numbered is) small (rw four refl)

pub comes_back : RulesComeBack
comes_back config peer sending numbered sent is short =
    record { short = short; read = update_read (terms_of config peer true) sending.as_path sent refl numbered is short }
