-- Files that are read one after the other, up to the one at which reading ends.
use Rattle.std.proofs.Common.{◌≡◌, ℕ, zero, suc, ◌+◌, ◌<◌, ◌≤◌, List, [], ◌∷◌, ◌++◌, Bool, take, Option, Some, None, Err, IsSome, MatchOption, true, false, length, get_or, refl, sym, ap, ◌∙◌, subst, inl, inr, arith, cond}
use Rattle.std.proofs.lemmas.List.{take_more}
use Rattle.embed_base.specs.Counts.{RoseByMore}
use Rattle.embed_cmd.specs.declared.asked_files.Unread.{Unread}
use Rattle.embed_cmd.specs.declared.asked_files.Unread.TheVariants as unread
use Rattle.embed_cmd.specs.declared.words.Asked.{Asked}
use Rattle.embed_cmd.specs.Transcript.{Contents, AskedFile, IsOfSome, is_longer, first_long, script_file, module_files, files_of, most_script_bytes, most_module_bytes}
use Rattle.embed_cmd.specs.Headline.{IsReadable, AreReadableFiles, EndsAt, IsPast}
use Rattle.embed_cmd.specs.AskedFiles.{OnFailed, IfTooLong, IsLongPath}

abbrev pub Absent : Type 0
Absent = List ℕ → Bool

abbrev pub Module : Type 0
Module = List ℕ × List ℕ

abbrev pub module_file : Module → AskedFile
module_file m = record { path = m.1; limit = most_module_bytes }

-- ---- a module among others

-- reading ends at a module, since those before it could be read
ends_at_module : (P : AskedFile → Type 0) (absent : Absent) (contents : Contents) (modules : List Module) (i : ℕ) (d : Module) → i < length modules
    → AreReadableFiles absent contents (module_files (take i modules)) → P (module_file (get_or modules i d)) → EndsAt P absent contents (module_files modules)
ends_at_module P absent contents [] i d within h p = absurd (omega (arith, within))
ends_at_module P absent contents (m ∷ ms) zero d within h p = inl p
ends_at_module P absent contents (m ∷ ms) (suc i) d within h p = inr (h.0, ends_at_module P absent contents ms i d (omega (arith, within)) h.1 p)

readable_append : (absent : Absent) (contents : Contents) (modules : List Module) (m : Module) → AreReadableFiles absent contents (module_files modules) → IsReadable absent contents (module_file m)
    → AreReadableFiles absent contents (module_files (modules ++ m ∷ []))
readable_append absent contents [] m h is = (is, tt)
readable_append absent contents (x ∷ xs) m h is = (h.0, readable_append absent contents xs m h.1 is)

-- one module more could be read
pub readable_more : (absent : Absent) (contents : Contents) (modules : List Module) (i : ℕ) (d : Module) → i < length modules → AreReadableFiles absent contents (module_files (take i modules))
    → IsReadable absent contents (module_file (get_or modules i d)) → AreReadableFiles absent contents (module_files (take (i + 1) modules))
readable_more absent contents modules i d within h is =
    subst (λ ms. AreReadableFiles absent contents (module_files ms)) (sym (take_more modules i d within)) (readable_append absent contents (take i modules) (get_or modules i d) h is)

-- ---- what was taken

rose_before : (before mid after limit : ℕ) → before ≤ mid → RoseByMore mid after limit → RoseByMore before after limit
rose_before before mid after limit h (inl rose) = inl (omega (arith, h, rose))
rose_before before mid after limit h (inr last) = inr last

past_before : (before mid after limit : ℕ) (content : Option (List ℕ)) → before ≤ mid → IsPast limit content mid after → IsPast limit content before after
past_before before mid after limit None h past = rose_before before mid after limit h past
past_before before mid after limit (Some bytes) h past = past

-- ---- what files told before and tell now is the same

module _ (absent absent_now : Absent) (contents now : Contents) (absent_same : (name : List ℕ) → absent_now name ≡ absent name) (same : (name : List ℕ) → now name ≡ contents name) where
  pub readable_same : (path : List ℕ) (limit : ℕ) → absent_now path ≡ false → is_longer limit (now path) ≡ false → IsReadable absent contents (record { path = path; limit = limit })
  readable_same path limit there short = record { there = sym (absent_same path) ∙ there; short = ap (λ o. is_longer limit o) (sym (same path)) ∙ short }

  one_same : (file : AskedFile) → IsReadable absent_now now file → IsReadable absent contents file
  one_same file h = readable_same file.path file.limit h.there h.short

  pub all_same : (files : List AskedFile) → AreReadableFiles absent_now now files → AreReadableFiles absent contents files
  all_same [] h = tt
  all_same (file ∷ files) h = (one_same file h.0, all_same files h.1)

  ends_same : (P Q : AskedFile → Type 0) → ((file : AskedFile) → P file → Q file) → (files : List AskedFile) → EndsAt P absent_now now files → EndsAt Q absent contents files
  ends_same P Q f [] h = absurd h
  ends_same P Q f (file ∷ files) (inl p) = inl (f file p)
  ends_same P Q f (file ∷ files) (inr h) = inr (one_same file h.0, ends_same P Q f files h.1)

  past_same : (before mid after limit : ℕ) (path : List ℕ) → before ≤ mid → IsPast limit (now path) mid after → IsPast limit (contents path) before after
  past_same before mid after limit path h past = past_before before mid after limit (contents path) h (subst (λ o. IsPast limit o mid after) (same path) past)

  -- a module that was too long, behind others that could be read
  pub long_in_modules : (stop : Unread) (modules : List Module) (i : ℕ) (d : Module) (asked : List ℕ) (before mid after : ℕ) → i < length modules → before ≤ mid → asked ≡ (get_or modules i d).1
      → AreReadableFiles absent contents (module_files (take i modules))
      → IfTooLong {A = Unit {0}} (Err stop) (λ long. (long ≡ asked) × IsPast most_module_bytes (now asked) mid after)
      → IfTooLong {A = Unit {0}} (Err stop) (λ path. IsLongPath (module_files modules) absent contents before after path)
  long_in_modules (unread.TooLong path) modules i d asked before mid after within h is so_far long =
      let past = subst (λ p. IsPast most_module_bytes (contents p) before after) is (past_same before mid after most_module_bytes asked h long.1) in
      ends_at_module (λ file. (file.path ≡ path) × IsPast file.limit (contents file.path) before after) absent contents modules i d within so_far (sym (long.0 ∙ is), past)
  long_in_modules unread.Failed modules i d asked before mid after within h is so_far long = tt
  long_in_modules unread.NoMemory modules i d asked before mid after within h is so_far long = tt

  -- a file that was too long or whose read failed, behind a script that could be read
  pub long_behind_script : (stop : Unread) (asked : Asked) (modules : List Module) (before mid after : ℕ) → modules ≡ asked.modules → before ≤ mid → IsReadable absent contents (script_file asked.script)
      → IfTooLong {A = Unit {0}} (Err stop) (λ path. IsLongPath (module_files modules) absent_now now mid after path)
      → IfTooLong {A = Unit {0}} (Err stop) (λ path. IsLongPath (files_of asked) absent contents before after path)
  long_behind_script (unread.TooLong path) asked modules before mid after is h script long =
      let here = subst (λ ms. IsLongPath (module_files ms) absent_now now mid after path) is long in
      inr (script, ends_same _ (λ file. (file.path ≡ path) × IsPast file.limit (contents file.path) before after) (λ file w. (w.0, past_same before mid after file.limit file.path h w.1)) (module_files asked.modules) here)
  long_behind_script unread.Failed asked modules before mid after is h script long = tt
  long_behind_script unread.NoMemory asked modules before mid after is h script long = tt

  pub failed_behind_script : (stop : Unread) (failed : Option (List ℕ)) (asked : Asked) (modules : List Module) → modules ≡ asked.modules → IsReadable absent contents (script_file asked.script)
      → OnFailed {A = Unit {0}} (Err stop) (EndsAt (λ file. failed ≡ Some file.path) absent_now now (module_files modules))
      → OnFailed {A = Unit {0}} (Err stop) (EndsAt (λ file. failed ≡ Some file.path) absent contents (files_of asked))
  failed_behind_script (unread.TooLong path) failed asked modules is script h = tt
  failed_behind_script unread.Failed failed asked modules is script h =
      let here = subst (λ ms. EndsAt (λ file. failed ≡ Some file.path) absent_now now (module_files ms)) is h in
      inr (script, ends_same _ (λ file. failed ≡ Some file.path) (λ file w. w) (module_files asked.modules) here)
  failed_behind_script unread.NoMemory failed asked modules is script h = tt

-- a failed read of a module, behind others that could be read
pub failed_in_modules : (stop : Unread) (failed : Option (List ℕ)) (absent : Absent) (contents : Contents) (modules : List Module) (i : ℕ) (d : Module) (asked : List ℕ) → i < length modules → asked ≡ (get_or modules i d).1
    → AreReadableFiles absent contents (module_files (take i modules))
    → OnFailed {A = Unit {0}} (Err stop) (failed ≡ Some asked) → OnFailed {A = Unit {0}} (Err stop) (EndsAt (λ file. failed ≡ Some file.path) absent contents (module_files modules))
failed_in_modules (unread.TooLong path) failed absent contents modules i d asked within is so_far h = tt
failed_in_modules unread.Failed failed absent contents modules i d asked within is so_far h = ends_at_module (λ file. failed ≡ Some file.path) absent contents modules i d within so_far (h ∙ ap (λ p. Some p) is)
failed_in_modules unread.NoMemory failed absent contents modules i d asked within is so_far h = tt

-- a script that could be read
pub script_readable : (absent : Absent) (contents : Contents) (asked : Asked) (path : List ℕ) → path ≡ asked.script → absent path ≡ false → is_longer most_script_bytes (contents path) ≡ false → IsReadable absent contents (script_file asked.script)
script_readable absent contents asked path is there short = record { there = subst (λ p. absent p ≡ false) is there; short = subst (λ p. is_longer most_script_bytes (contents p) ≡ false) is short }

-- a script that was too long
pub long_script : (stop : Unread) (absent : Absent) (contents : Contents) (asked : Asked) (path : List ℕ) (before after : ℕ) → path ≡ asked.script
    → IfTooLong {A = Unit {0}} (Err stop) (λ long. (long ≡ path) × IsPast most_script_bytes (contents path) before after)
    → IfTooLong {A = Unit {0}} (Err stop) (λ path. IsLongPath (files_of asked) absent contents before after path)
long_script (unread.TooLong long) absent contents asked path before after is h = inl (sym (h.0 ∙ is), subst (λ p. IsPast most_script_bytes (contents p) before after) is h.1)
long_script unread.Failed absent contents asked path before after is h = tt
long_script unread.NoMemory absent contents asked path before after is h = tt

-- ---- the first file that is too long

-- none is, where all could be read
pub none_long : (absent : Absent) (contents : Contents) (files : List AskedFile) → AreReadableFiles absent contents files → first_long contents files ≡ None
none_long absent contents [] h = refl
none_long absent contents (file ∷ files) h = ap (λ b. cond b (Some file.path) (first_long contents files)) h.0.short ∙ none_long absent contents files h.1

told_past : (limit before after : ℕ) (content : Option (List ℕ)) → IsSome content → IsPast limit content before after → is_longer limit content ≡ true
told_past limit before after None some h = absurd (cc)
told_past limit before after (Some bytes) some h = h

-- it is the one at which reading ended, where all are told
pub first_of : (absent : Absent) (contents : Contents) (before after : ℕ) (path : List ℕ) (files : List AskedFile) → ((name : List ℕ) → IsOfSome (λ file. file.path ≡ name) files → IsSome (contents name))
    → IsLongPath files absent contents before after path → first_long contents files ≡ Some path
first_of absent contents before after path [] told h = absurd h
first_of absent contents before after path (file ∷ files) told (inl w) =
    ap (λ b. cond b (Some file.path) (first_long contents files)) (told_past file.limit before after (contents file.path) (told file.path (inl refl)) w.1) ∙ ap (λ p. Some p) w.0
first_of absent contents before after path (file ∷ files) told (inr w) =
    ap (λ b. cond b (Some file.path) (first_long contents files)) w.0.short ∙ first_of absent contents before after path files (λ name k. told name (inr k)) w.1

-- why it was too long
pub long_cause : (absent : Absent) (contents : Contents) (before after : ℕ) (path : List ℕ) (files : List AskedFile) → IsLongPath files absent contents before after path
    → EndsAt (λ file. IsPast file.limit (contents file.path) before after) absent contents files
long_cause absent contents before after path [] h = absurd h
long_cause absent contents before after path (file ∷ files) (inl w) = inl w.1
long_cause absent contents before after path (file ∷ files) (inr w) = inr (w.0, long_cause absent contents before after path files w.1)
