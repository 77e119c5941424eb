pub mod Preference
pub mod PreferenceLaws
pub mod Prefers
pub mod Best
pub mod Lead
pub mod Heard
pub mod Examples
