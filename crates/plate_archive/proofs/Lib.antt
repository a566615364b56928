pub mod TextLaws
pub mod CopyLaws
pub mod SoundLaws
pub mod AssemblyLaws
