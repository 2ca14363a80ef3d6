mod Histories
